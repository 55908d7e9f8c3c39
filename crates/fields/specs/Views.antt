-- The text of each field's value.
use Rattle.std.specs.Prelude.{ℕ, decimal, Option}
use Rattle.rulebook.specs.Texts.{Text}
use Rattle.rulebook.specs.Dates.{written_day}
use Rattle.eic.specs.Views.{code_text}
use Rattle.eic.specs.declared.codes.Code.{Code}
use Rattle.fields.specs.Bounded.{bounded_text}
use Rattle.fields.specs.Texts.{text_or}
use Rattle.fields.specs.declared.articles.Ean.{Ean}
use Rattle.fields.specs.declared.dates.Date.{Date}
use Rattle.fields.specs.declared.names.Lawful.{Lawful}
use Rattle.fields.specs.declared.numbers.Number.{Number}

abbrev pub date_text : Date → Text
date_text d = written_day d.year d.month d.day

abbrev pub number_text : {n : ℕ} → Number n → Text
number_text n = decimal n.number

abbrev pub object_text : Number 10 → Text
object_text o = number_text o

abbrev pub function_text : Number 2 → Text
function_text f = number_text f

-- a lawful text of at most n bytes, by any rule
abbrev pub lawful_text : {n : ℕ} {R : _} {rule : _} → Lawful n R rule → Text
lawful_text t = bounded_text t.kept

abbrev pub name_text : {R : _} {rule : _} → Lawful 70 R rule → Text
name_text n = lawful_text n

abbrev pub display_text : {R : _} {rule : _} → Lawful 16 R rule → Text
display_text d = lawful_text d

abbrev pub vat_text : {R : _} {rule : _} → Lawful 14 R rule → Text
vat_text v = lawful_text v

abbrev pub ean_text : Ean → Text
ean_text e = e.digits

-- a field that may be blank
abbrev pub vat_text_or : {R : _} {rule : _} → Option (Lawful 14 R rule) → Text
vat_text_or v = text_or vat_text v

abbrev pub ean_text_or : Option Ean → Text
ean_text_or e = text_or ean_text e

abbrev pub code_text_or : Option Code → Text
code_text_or c = text_or code_text c
