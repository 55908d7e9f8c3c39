-- The texts that a record stands for.
use Rattle.std.specs.Prelude.{Bool, true, false, List, [], map, codes}
use Rattle.rulebook.specs.Records.{RegistrationTexts, Entry}
use Rattle.eic.specs.Views.{code_text}
use Rattle.fields.specs.Views.{date_text, object_text, function_text, name_text, display_text, code_text_or, vat_text_or, ean_text_or}
use Rattle.records.specs.declared.Record.{Record}
use Rattle.records.specs.declared.Registration.{Registration}
use Rattle.records.specs.declared.Status.{Status}
use Rattle.records.specs.declared.Status.TheVariants.{Active, Inactive}

abbrev pub is_active : Status → Bool
is_active Active = true
is_active Inactive = false

abbrev pub registration_texts : Registration → RegistrationTexts
registration_texts r = record {
  object = object_text r.object;
  function = function_text r.function;
  name = name_text r.name;
  display = display_text r.display;
  parent = code_text_or r.parent;
  responsible = code_text_or r.responsible;
  vat = vat_text_or r.vat;
  ean = ean_text_or r.ean;
}

abbrev pub entry_of : Record → Entry
entry_of r = record {
  code = code_text r.code;
  active = is_active r.status;
  date = date_text r.date;
  registration = registration_texts r.registration;
}

abbrev pub entries_of : List Record → List Entry
entries_of rs = map entry_of rs

-- what stands in a row before a record is written there
abbrev pub placeholder : Entry
placeholder = record {
  code = codes "00T0000000000001";
  active = false;
  date = codes "2000-01-01";
  registration = record { object = codes "1"; function = codes "1"; name = codes "-"; display = codes "-"; parent = []; responsible = []; vat = []; ean = [] };
}
