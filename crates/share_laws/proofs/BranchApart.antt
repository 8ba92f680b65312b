-- What a branch holds and what is left to its starter do not meet.
use Rattle.std.proofs.Common.{◌≡◌, ◌*◌, true, inl, inr, length, arith}
use Rattle.machine_state.specs.Ownership.{Claim, to_write, to_read, to_use, claims, rival}
use Rattle.machine_state.proofs.Claims.{is_apart, IsBehind}
use Rattle.machine_state.proofs.Shares.{given_claims, left_claims}
use Rattle.share_laws.specs.Shares.{share_at}
use Rattle.share_laws.specs.Starts.{held_by_branch, held_by_starter}
use Rattle.share_laws.specs.Tests.{BranchesAreApart}
use Rattle.share_laws.proofs.ShareIsThere.{writes_are_there, reads_are_there, ends_held}

-- whatever the branch claims was taken from the starter, or is a constant
pub branches_are_apart : BranchesAreApart
branches_are_apart m found layout base addresses h memory depth workspace s = is_apart
    (held_by_branch m found base addresses (length memory)) (held_by_starter m found base addresses h (length memory))
    no_clash
  where
    -- a constant is nothing that the starter may write
    constant : (c : Claim) → IsBehind (4 * m.data_words) c
        → claims (held_by_starter m found base addresses h (length memory)) (rival c) ≡ true → ⊥
    constant (to_write x) behind left = behind
    constant (to_read x) behind left =
        let low = s.named.constants.behind x
        (left_claims (length memory) h (share_at m found base addresses) (to_write x) left) in
        omega (arith, behind, low)
    constant (to_use e) behind left = behind

    no_clash : (c : Claim) → claims (held_by_branch m found base addresses (length memory)) c ≡ true
        → claims (held_by_starter m found base addresses h (length memory)) (rival c) ≡ true → ⊥
    no_clash c mine left = elim (given_claims m (length memory) h (share_at m found base addresses)
        (writes_are_there m found layout base addresses h memory depth workspace s)
        (reads_are_there m found layout base addresses h memory depth workspace s)
        (ends_held m found layout base addresses h memory depth workspace s) (4 * m.data_words) (omega arith) c mine) [
          | inl behind ↦ constant c behind left
          | inr there ↦ there.1 left
        ]
