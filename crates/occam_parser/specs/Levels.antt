-- How many levels of lines a tree takes: a recursion over it goes no deeper.
use Rattle.std.specs.Prelude.{ℕ, ◌+◌, max, List, [], ◌∷◌}
use Rattle.occam_parser.specs.Blocks.{Process, Declared, Does, Construct, Act, Block, Replicated, Body, One, Components}
use Rattle.occam_parser.specs.Blocks.{Part, NoComponent, Further, Component, Plain, Chosen, Guarded, ProgramItem}
use Rattle.occam_parser.specs.Blocks.{GlobalConstant, GlobalProcedure}

abbrev mutual
  pub levels_of : Process → ℕ
  levels_of (Declared d p) = levels_of p
  levels_of (Does line c) = 1 + levels_below c

  -- those below the line that a construct begins with
  pub levels_below : Construct → ℕ
  levels_below (Act a) = 0
  levels_below (Block kind components) = levels_of_components components
  levels_below (Replicated replicator body) = levels_of_body body

  pub levels_of_body : Body → ℕ
  levels_of_body (One kind component) = levels_of_component component

  pub levels_of_components : {part : Part} → Components part → ℕ
  levels_of_components NoComponent = 0
  levels_of_components (Further cs c) = max (levels_of_components cs) (levels_of_component c)

  pub levels_of_component : {part : Part} → Component part → ℕ
  levels_of_component (Plain p) = levels_of p
  levels_of_component (Chosen line e p) = 1 + levels_of p
  levels_of_component (Guarded line g p) = 1 + levels_of p

abbrev pub levels_of_item : ProgramItem → ℕ
levels_of_item (GlobalConstant c) = 0
levels_of_item (GlobalProcedure p) = levels_of p.body

-- below the heads of the procedures
abbrev pub levels_of_items : List ProgramItem → ℕ
levels_of_items [] = 0
levels_of_items (item ∷ items) = max (levels_of_item item) (levels_of_items items)
