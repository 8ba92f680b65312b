-- The contexts of code: the root and the branches of PARs, which are named by the labels of their entries.
use Rattle.std.specs.Prelude.{◌≡◌, ◌<◌, ℕ, suc, nat_eq, List, [], ◌∷◌, length, slice_index_or, if◌then◌else◌}
use Rattle.module_builder.specs.declared.draft.ContextName.{ContextName}
use Rattle.module_builder.specs.declared.draft.ContextName.TheVariants as names
use Rattle.code_pieces.specs.declared.contexts.ContextNames.{ContextNames}
use Rattle.code_pieces.specs.declared.piece.CodeContext.{CodeContext}
use Rattle.code_pieces.specs.declared.piece.CodeContext.TheVariants.{Root, Branch}
use Rattle.code_pieces.specs.Pars as pars
use Rattle.code_pieces.specs.Pars.{Par}

-- No module of pieces has this context, since it has no procedures.
abbrev pub nowhere : ContextName
nowhere = names.Procedure 0

-- The name of the branch with this entry. These branches are of the PAR with this number, and the first of them has
-- this number there; if none of them has the entry, it is the name that is given.
abbrev pub name_among : ℕ → ℕ → ℕ → List pars.ParBranch → ContextName → ContextName
name_among entry par branch [] other = other
name_among entry par branch (b ∷ bs) other =
    name_among entry par (suc branch) bs (if nat_eq b.entry entry then names.Branch par branch else other)

-- the same for the branches of PARs, of which the first has this number
abbrev pub name_from : ℕ → ℕ → List Par → ContextName → ContextName
name_from entry par [] other = other
name_from entry par (p ∷ ps) other = name_from entry (suc par) ps (name_among entry par 0 p.branches other)

-- how a draft with these PARs names a context
abbrev pub context_name : List Par → CodeContext → ContextName
context_name ps Root = names.Root
context_name ps (Branch entry) = name_from entry 0 ps nowhere

-- the names, by label
pub record AreNames (contexts : ContextNames) (ps : List Par) : Type 0 where
  pub each : (entry : ℕ) → entry < length contexts.names.items
      → slice_index_or contexts.names.items entry nowhere ≡ context_name ps (Branch entry)
