use Rattle.fields.proofs.Pads.{pad_clear, pad_text, pad_long}
use Rattle.fields.proofs.bounded.Bounded.of.Goals as goal

pub invariant_of-result : goal.invariant_of-result
invariant_of-result g c =
    let t = c.args.text.now in
    let bytes = c.padded-bytes.result in
    record { within = c.requires.0; clear = pad_clear g.row.N bytes t c.padded-bytes.ensures; long = pad_long g.row.N bytes t c.padded-bytes.ensures c.requires.0 }

pub returns : goal.returns
returns g c = pad_text g.row.N c.padded-bytes.result c.args.text.now c.padded-bytes.ensures
