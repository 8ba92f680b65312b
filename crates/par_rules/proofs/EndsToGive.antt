-- Whether a PAR brings the channel of an end, by a search in its channels.
use Rattle.std.proofs.Common.{◌≡◌, ℕ, ℤ, Bool, true, false, ◌&&◌, ◌||◌, List, [], ◌∷◌, refl, ap, ◌∙◌, Option}
use Rattle.std.proofs.Common.{Some, None}
use Rattle.std.specs.Prelude.{int_le, is_some}
use Rattle.std.specs.List.{list_any, list_all}
use Rattle.module_format.specs.declared.rows.ChannelRow.{ChannelRow}
use Rattle.module_format.specs.declared.rows.EndKind.{EndKind}
use Rattle.module_format.specs.declared.rows.EndKind.TheVariants as ends
use Rattle.module_format.specs.declared.rows.EndRow.{EndRow}
use Rattle.module_format.specs.Contents.{Contents, Par, Branch}
use Rattle.certificate.specs.Branches.{numbered_branch}
use Rattle.certificate.specs.Rights.{has_end, listed_length}
use Rattle.certificate.specs.Siblings.{brings_channel, has_ends_of}
use Rattle.states.specs.State.{is_same_number}
use Rattle.rulings.specs.Remaining.{is_own_end}
use Rattle.par_rules.specs.Gifts.{has_end_to_give}

listed : (k : ℤ) (cs : List ChannelRow)
    → is_some (listed_length cs k) ≡ list_any (λ (c : ChannelRow). is_same_number c.word k) cs
listed k [] = refl
listed k (c ∷ cs) = elim (int_le c.word k && int_le k c.word) as (λ b. (int_le c.word k && int_le k c.word) ≡ b
    → is_some (listed_length (c ∷ cs) k) ≡ list_any (λ (x : ChannelRow). is_same_number x.word k) (c ∷ cs)) [
      | true ↦ λ e. rw e refl
      | false ↦ λ e. rw e (listed k cs)
    ] refl

brings : (par : Par) (kind : EndKind) → brings_channel par kind ≡ is_own_end par kind
brings par (ends.FrameWord k) = listed k par.channels
brings par (ends.Parameter number element) = refl
brings par (ends.Link link) = refl

all_to_give : (m : Contents) (context : ℕ) (par : Par) (es : List EndRow)
    → list_all (λ (e : EndRow). has_end m context e || brings_channel par e.kind) es
    ≡ list_all (has_end_to_give m context par) es
all_to_give m context par [] = refl
all_to_give m context par (e ∷ es) =
    ap (λ (b : Bool). (has_end m context e || b)
    && list_all (λ (x : EndRow). has_end m context x || brings_channel par x.kind) es) (brings par e.kind)
    ∙ ap (λ (b : Bool). has_end_to_give m context par e && b) (all_to_give m context par es)

-- of the branch that is context n
pub given_to : (m : Contents) (context n : ℕ) (par : Par) (b : Branch) → numbered_branch m n ≡ Some (par, b)
    → has_ends_of m context n ≡ list_all (has_end_to_give m context par) b.ends
given_to m context n par b is =
    ap (λ (o : Option (Par × Branch)). elim o [
      | None ↦ true
      | Some found ↦ list_all (λ (e : EndRow). has_end m context e || brings_channel found.0 e.kind) found.1.ends
    ]) is
    ∙ all_to_give m context par b.ends
