-- What a clerk is told of a text, by its length.
use Rattle.std.specs.Prelude.{Bool, cond, ◌&&◌, length, is_ok, Ok, Err, Result, ◌==◌}
use Rattle.grounds.specs.declared.Refusal.{Refusal}
use Rattle.rulebook.specs.Texts.{Text}
use Rattle.rulebook.specs.Schemes.{weighed, is_right}
use Rattle.rulebook.specs.Codes.{read_code, completed}
use Rattle.rulebook.specs.Articles.{ean13}
use Rattle.eic.specs.Views.{code_text}
use Rattle.eiccheck.specs.declared.verdicts.Verdict.{Verdict}
use Rattle.eiccheck.specs.declared.verdicts.Verdict.TheVariants.{Sound, Completed, RightEan, WrongEan, Uncompleted, Refused}

-- a verdict, by its texts
pub data Seen : Type 0 where
  sound_code : Text → Seen
  completed_code : Text → Seen
  right_ean : Seen
  wrong_ean : Seen
  uncompleted : Refusal → Seen
  refused_as : Refusal → Seen

abbrev pub seen : Verdict → Seen
seen (Sound c) = sound_code (code_text c)
seen (Completed c) = completed_code (code_text c)
seen RightEan = right_ean
seen WrongEan = wrong_ean
seen (Uncompleted e) = uncompleted e
seen (Refused e) = refused_as e

abbrev pub told : (Text → Seen) → (Refusal → Seen) → Result Text Refusal → Seen
told f g (Ok t) = f t
told f g (Err e) = g e

abbrev pub thirteen_digits : Text → Bool
thirteen_digits t = length t == 13 && is_ok (weighed ean13 t)

abbrev pub examined : Text → Seen
examined t =
    cond (thirteen_digits t) (cond (is_right ean13 t) right_ean wrong_ean)
    (cond (length t == 15) (told completed_code uncompleted (completed t))
    (told sound_code refused_as (read_code t)))
