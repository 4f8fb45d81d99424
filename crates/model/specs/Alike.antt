-- Two lists of rows that differ only in the order of rows, as demand 3 has it; and two lists of lines, of which each gives a row.
use Rattle.std.specs.Prelude.{◌≡◌, Bool, false, List, map}
use Rattle.rows.specs.declared.rules.Site.{Site}
use Rattle.model.specs.Lists.{filter}
use Rattle.model.specs.Rules.{same_residue, same_atom, first_met, first_of}
use Rattle.model.specs.Taken.{Taken, skipped, site, sites, skipped_in}

pub record Alike (l₁ l₂ : List Taken) : Type 0 where
  -- each atom has the same rows, in the same order
  pub atoms : (s : Site) → filter (same_atom s) (sites l₁) ≡ filter (same_atom s) (sites l₂)
  -- chains are first met in the same order
  pub chains : first_met (sites l₁) ≡ first_met (sites l₂)
  -- each residue's first unskipped row bears the same residue name and HETATM mark
  pub residues : (s : Site) → first_of (filter (same_residue s) (sites l₁)) ≡ first_of (filter (same_residue s) (sites l₂))
  pub skipped : skipped_in l₁ ≡ skipped_in l₂

-- the row is of the atom of s
abbrev pub is_of : Site → Taken → Bool
is_of s skipped = false
is_of s (site t) = same_atom s t

pub record AlikeLines {Line : Type 0} (row_of : Line → Taken) (t u : List Line) : Type 0 where
  -- each atom has the same lines, in the same order
  pub atoms : (s : Site) → filter (λ x. is_of s (row_of x)) t ≡ filter (λ x. is_of s (row_of x)) u
  pub chains : first_met (sites (map row_of t)) ≡ first_met (sites (map row_of u))
  pub residues : (s : Site) → first_of (filter (same_residue s) (sites (map row_of t))) ≡ first_of (filter (same_residue s) (sites (map row_of u)))
  pub skipped : skipped_in (map row_of t) ≡ skipped_in (map row_of u)
