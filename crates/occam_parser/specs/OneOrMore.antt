-- Lists that have one item at least.
use Rattle.std.specs.Prelude.{List, ◌∷◌, map}
use Rattle.occam_parser.specs.declared.tree.OneOrMore as code_type

pub record OneOrMore (A : Type 0) : Type 0 where
  pub first : A
  pub others : List A

abbrev pub as_list : {A : Type 0} → OneOrMore A → List A
as_list xs = xs.first ∷ xs.others

-- those of the program, with each item seen
abbrev pub one_or_more_of : {A B : Type 0} → (A → B) → code_type.OneOrMore A → OneOrMore B
one_or_more_of view xs = record { first = view xs.first; others = map view xs.others.items }
