-- A name that is no key of the arms before is no symbol.
use borrow.Author.Rules.{rules}
use Rattle.names.proofs.SymbolTable.{none_looked}
use Rattle.names.proofs.elements.element_named.Goals as goal

pub returns-in_default : goal.returns-in_default
returns-in_default c = none_looked c.args.name c.ranges.name.fits (search rules)
