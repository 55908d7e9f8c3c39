-- The text that a bounded text holds.
use Rattle.std.specs.Prelude.{ℕ, take}
use Rattle.rulebook.specs.Texts.{Text}
use Rattle.fields.specs.declared.bounded.Bounded.{Bounded}

abbrev pub bounded_text : {n : ℕ} → Bounded n → Text
bounded_text b = take b.len b.bytes
