-- The text of a field that may be blank.
use Rattle.std.specs.Prelude.{[], Some, None, Option}
use Rattle.rulebook.specs.Texts.{Text}

abbrev pub text_or : {X : Type 0} → (X → Text) → Option X → Text
text_or f None = []
text_or f (Some x) = f x
