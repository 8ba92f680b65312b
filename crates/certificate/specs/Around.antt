-- The lengths of channels as a walk over contexts keeps them.
use Rattle.std.specs.Prelude.{◌≡◌, ℕ, ℤ, List, [], ◌∷◌, map, reverse, Option, Some, None, MatchOption, slice_get, Vec}
use Rattle.std.specs.Global.{Global}
use Rattle.std.specs.Ordering.{int_cmp}
use Rattle.std.specs.BTreeMap.{get}
use Rattle.module_format.specs.Contents.{Contents}
use Rattle.certificate.specs.declared.around.Around.{Around}
use Rattle.certificate.specs.Branches.{numbered_branch}
use Rattle.certificate.specs.Rights.{channel_length}

-- a length that is there, else another
abbrev pub nearer : Option ℕ → Option ℕ → Option ℕ
nearer (Some len) other = Some len
nearer None other = other

-- on the way to a context, outermost last: for each PAR row around it, what its channels' words had before
abbrev pub AreSaved : Contents → ℕ → List (Vec (Option ℕ) Global) → Type 0
AreSaved c n [] = numbered_branch c n ≡ None
AreSaved c n (before ∷ saved) = MatchOption (numbered_branch c n) ⊥ (λ x.
    (before.items ≡ map (λ channel. channel_length c x.0.context channel.word) x.0.channels)
    × AreSaved c x.0.context saved)

-- the lengths are those around the walk's context
pub record IsAround (c : Contents) (around : Around) : Type 0 where
  pub lengths : (k : ℤ) → get int_cmp around.lengths k ≡ channel_length c around.context k
  pub saved : AreSaved c around.context (reverse around.saved.items)

-- the row of which the context is a branch, where it is one
abbrev pub IsRowOf : Contents → ℕ → Option ℕ → Type 0
IsRowOf c n None = numbered_branch c n ≡ None
IsRowOf c n (Some row) = MatchOption (numbered_branch c n) ⊥ (λ x. slice_get c.pars row ≡ Some x.0)
