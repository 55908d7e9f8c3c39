-- The order that a request stands for, cut from its line or typed.
use Rattle.rulebook.specs.Records.{RegistrationTexts}
use Rattle.rulebook.specs.Requests.{Order, creates, changes, deactivates, reactivates, looks_up}
use Rattle.eic.specs.Views.{code_text}
use Rattle.fields.specs.Views.{date_text}
use Rattle.records.specs.Views.{registration_texts}
use Rattle.requests.specs.declared.commands.Command.{Command}
use Rattle.requests.specs.declared.commands.Command.TheVariants as command
use Rattle.requests.specs.declared.lines.RegistrationFields.{RegistrationFields}
use Rattle.requests.specs.declared.lines.Request.{Request}
use Rattle.requests.specs.declared.lines.Request.TheVariants.{Create, Change, Deactivate, Reactivate, LookUp}

abbrev pub texts_in : RegistrationFields → RegistrationTexts
texts_in f = record {
  object = f.object.now;
  function = f.function.now;
  name = f.name.now;
  display = f.display.now;
  parent = f.parent.now;
  responsible = f.responsible.now;
  vat = f.vat.now;
  ean = f.ean.now;
}

abbrev pub order_in : Request → Order
order_in (Create d r) = creates d.date.now d.code.now (texts_in r)
order_in (Change d r) = changes d.date.now d.code.now (texts_in r)
order_in (Deactivate d) = deactivates d.date.now d.code.now
order_in (Reactivate d) = reactivates d.date.now d.code.now
order_in (LookUp c) = looks_up c.now

abbrev pub order_of : Command → Order
order_of (command.Create d r) = creates (date_text d.date) (code_text d.code) (registration_texts r)
order_of (command.Change d r) = changes (date_text d.date) (code_text d.code) (registration_texts r)
order_of (command.Deactivate d) = deactivates (date_text d.date) (code_text d.code)
order_of (command.Reactivate d) = reactivates (date_text d.date) (code_text d.code)
order_of (command.LookUp c) = looks_up (code_text c)
