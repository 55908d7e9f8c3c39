-- The laws that EAN-13 keeps. Assumes nothing.
use Rattle.std.proofs.Common.{◌<◌, rules}
use Rattle.rulebook.specs.Schemes.{Placed, Below, Distinct, Telling}
use Rattle.rulebook.specs.Articles.{ean13}

pub short : ean13.places < 256
short = search rules

pub positive : 0 < ean13.modulus
positive = search rules

pub placed : Placed ean13
placed = search rules

pub below : Below ean13
below = search rules

pub distinct : Distinct ean13
distinct = search rules

pub telling : Telling ean13
telling = search rules
