-- No end that a process has for good lies in a word that it may write.
use Rattle.std.proofs.Common.{◌≡◌, ℕ, true, inl, inr, List, Option, arith}
use Rattle.module_format.specs.Contents.{Contents}
use Rattle.machine_state.specs.declared.holding.End.{End}
use Rattle.machine_state.specs.declared.process.Channel.{Channel}
use Rattle.machine_state.specs.Happens.{world_after}
use Rattle.machine_state.specs.Holding.{may_write, has_end}
use Rattle.machine_state.specs.Memory.{place_of}
use Rattle.machine_state.specs.Ownership.{HoldersIn, in_channel}
use Rattle.machine_state.specs.Roles.{own_in}
use Rattle.machine_state.specs.World.{Role}
use Rattle.machine_state.proofs.ApartLaws.{holders_are_in_order}
use Rattle.machine_state.proofs.Claims.{written_is_read}
use Rattle.share_laws.specs.Opening.{EndsLieOutside}

-- an end is of a link, or of a channel that one above keeps the word of
is_outside : (m : Contents) (roles : List Role) (channels : List (Option Channel)) → HoldersIn m roles channels → (p :
    ℕ)
    (e : End) → has_end (own_in roles p) e ≡ true → may_write (own_in roles p) (place_of e.address) ≡ true → ⊥
is_outside m roles channels t p e held mine = elim (t.ends p e held) [
  | inl outside ↦ let low = t.inside p (place_of e.address) mine in omega (arith, low, outside)
  | inr lent ↦ t.below_kept lent.0.process p (place_of e.address) lent.0.above
      (written_is_read (own_in roles p) (place_of e.address) mine) (in_channel lent.0.owned)
]

-- so in each world
pub ends_lie_outside : EndsLieOutside
ends_lie_outside m es p keeps = is_outside m (world_after m es).roles (world_after m es).channels
    (holders_are_in_order m es keeps) p
