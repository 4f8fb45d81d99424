-- Headers, rows and `#` are put one after the other.
use Rattle.row_texts.proofs.EmittedLaws.{then}
use Rattle.writer.specs.Text.{lines_text}
use Rattle.writer.proofs.atoms.put_atom_loop.Goals as goal

pub returns : goal.returns
unfolding lines_text
returns c =
    λ well. then c.put_atom_headers-at.ensures (then (c.put_atom_rows-at.ensures well) (λ _. c.put_word.ensures)) c.well_formed.0.0
