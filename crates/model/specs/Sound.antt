-- What every site is that comes from a line of the domain: names of 1 to 8 bytes, each 9 or 32 to 126, no chain `.`, numbers within their bounds.
use Rattle.std.specs.Prelude.{◌≡◌, true, false, ◌≤◌, eqb}
use Rattle.ascii.specs.Bytes.{bytes}
use Rattle.names.specs.Packing.{packed}
use Rattle.rows.specs.declared.rules.Site.{Site}
use Rattle.model.specs.Proper.{Proper}
use Rattle.model.specs.WellFormed.{is_name, is_code, is_near}

pub record Sound (s : Site) : Type 0 where
  pub proper : Proper s
  pub chain : is_name s.chain ≡ true
  pub no_point : eqb s.chain (packed (bytes ".")) ≡ false
  pub residue : is_name s.residue ≡ true
  pub atom : is_name s.atom ≡ true
  pub code : is_code s.insertion_code ≡ true
  pub element : s.element ≤ 118
  pub near : is_near s.position ≡ true
