-- The end of a member of a join keeps holdings apart, and so does the end of the join.
use Rattle.std.proofs.Common.{◌≡◌, ◌≢◌, ℕ, Bool, true, false, List, Option, Some, None, refl, sym, ap, ◌∙◌, subst}
use Rattle.std.proofs.Common.{slice_get, eqb-true}
use Rattle.std.specs.Prelude.{◌==◌, not, slice_set}
use Rattle.module_format.specs.Contents.{Contents, Par}
use Rattle.machine_state.specs.declared.process.Channel.{Channel}
use Rattle.machine_state.specs.World.{World, Role, Join}
use Rattle.machine_state.specs.Turn.{Here}
use Rattle.machine_state.specs.Moves.{on_task, dispatch}
use Rattle.machine_state.specs.Joins.{on_role, member_joined, closed_task, without_channels}
use Rattle.machine_state.proofs.Lines.{got_set}
use Rattle.machine_state.proofs.MovesLeaveAlone.{on_task_only, on_role_only, with_opened, without, is_last, member_gone}
use Rattle.machine_state.proofs.MovesLeaveAlone.{joined_either, on_role_is, roles_of_equal}
use Rattle.machine_state.proofs.Among.{filter_keeps, none_among}
use Rattle.machine_state.specs.Ownership.{Claim, claims, HoldersIn}
use Rattle.machine_state.specs.Roles.{own_in, opener_in}
use Rattle.machine_state.proofs.Owners.{taken_owner, left_owner}
use Rattle.machine_state.proofs.Roles.{opened_here, opened_other, opened_is, join_goes_on, join_closes}

pub on_role_channels : (p : ℕ) (f : Role → Role) (w : World) → (on_role p f w).channels ≡ w.channels
on_role_channels p f w = (on_role_only p f w).channels

pub on_role_tasks : (p : ℕ) (f : Role → Role) (w : World) → (on_role p f w).tasks ≡ w.tasks
on_role_tasks p f w = (on_role_only p f w).tasks

-- the same roles and channels
pub carried : (m : Contents) (roles later : List Role) (channels cells : List (Option Channel)) → later ≡ roles
    → cells ≡ channels → HoldersIn m roles channels → HoldersIn m later cells
carried m roles later channels cells a b t =
    subst (λ (roles : List Role). HoldersIn m roles cells) (sym a)
    (subst (λ (channels : List (Option Channel)). HoldersIn m roles channels) (sym b) t)

-- two numbers that differ
pub is_not : (s q : ℕ) → s ≢ q → not (s == q) ≡ true
is_not s q differ = on (s == q) refl
  where
    on : (b : Bool) → (s == q) ≡ b → not b ≡ true
    on true e = absurd (differ (eqb-true s q e))
    on false e = refl

module _ (h : Here) (m : Contents) (o : ℕ) (j : Join) (par : Par) (v : World) (r : Role)
    (t : HoldersIn m v.roles v.channels) (here : slice_get v.roles o ≡ Some r) (is : r.opened ≡ Some j)
    (idle : (c : Claim) → opener_in v.roles h.process ≡ Some o → claims (own_in v.roles h.process) c ≡ true → ⊥) where
  pub reduced : HoldersIn m (slice_set v.roles o (with_opened (Some (without h.process j)) r)) v.channels
  reduced = join_goes_on m v.roles v.channels t o r here j (without h.process j) (record {
    is = opened_is m v.roles v.channels t o r here ∙ is;
    here = opened_here m v.roles v.channels t o r here (Some (without h.process j));
    others = opened_other m v.roles v.channels t o r here (Some (without h.process j));
    block = refl;
    base = refl;
    row = refl;
    less = λ c claimed. claimed;
    counts = λ s c by claimed among. filter_keeps (λ q. not (q == h.process)) j.members s among
        (is_not s h.process (λ e. idle c (subst (λ n. opener_in v.roles n ≡ Some o) e by)
        (subst (λ n. claims (own_in v.roles n) c ≡ true) e claimed)));
  })

  abbrev smaller : Role
  smaller = with_opened (Some (without h.process j)) r

  abbrev there : World
  there = member_gone h o j v

  there_roles : there.roles ≡ slice_set v.roles o smaller
  there_roles = roles_of_equal (on_role_is o (with_opened (Some (without h.process j))) v r here)

  there_channels : there.channels ≡ v.channels
  there_channels = on_role_channels o (with_opened (Some (without h.process j))) v

  still_there : HoldersIn m there.roles there.channels
  still_there = carried m (slice_set v.roles o smaller) there.roles v.channels there.channels there_roles there_channels
      reduced

  abbrev over : World
  over = on_task o (closed_task j par) there

  over_roles : over.roles ≡ there.roles
  over_roles = (on_task_only o (closed_task j par) there).roles

  over_channels : over.channels ≡ there.channels
  over_channels = (on_task_only o (closed_task j par) there).channels

  at_over : slice_get over.roles o ≡ Some smaller
  at_over = ap (λ (rs : List Role). slice_get rs o) (over_roles ∙ there_roles) ∙ got_set v.roles o r smaller here

  is_over : is_last h.process j ≡ true → HoldersIn m (on_role o (with_opened None) over).roles
      (without_channels o (on_role o (with_opened None) over).channels)
  is_over none =
      let t1 = carried m there.roles over.roles there.channels over.channels over_roles over_channels still_there in
      let closed = join_closes m over.roles over.channels t1 o smaller at_over (without h.process j)
      (without_channels o over.channels) (record {
        is = opened_is m over.roles over.channels t1 o smaller at_over;
        nobody = λ s among. none_among (without h.process j).members s none among;
        here = opened_here m over.roles over.channels t1 o smaller at_over None;
        others = opened_other m over.roles over.channels t1 o smaller at_over None;
        owned = λ n q at. taken_owner o over.channels n q at;
        still = λ n q differ at. left_owner o over.channels n q differ at;
      }) in
      carried m (slice_set over.roles o (with_opened None smaller)) (on_role o (with_opened None) over).roles
      (without_channels o over.channels) (without_channels o (on_role o (with_opened None) over).channels)
      (roles_of_equal (on_role_is o (with_opened None) over smaller at_over))
      (ap (without_channels o) (on_role_channels o (with_opened None) over)) closed

  pub member_ends : HoldersIn m (member_joined h o j par v).roles (member_joined h o j par v).channels
  unfolding dispatch
  member_ends = joined_either (λ (v : World). HoldersIn m v.roles v.channels) h o j par v is_over (λ some. still_there)
