-- Who holds what, as a world has it: the moves of its roles keep holdings apart.
use Rattle.std.proofs.Common.{◌≡◌, ◌≢◌, ℕ, zero, suc, ◌*◌, true, ◌⊎◌, inl, inr, List, [], ◌∷◌, ◌++◌, length, Option}
use Rattle.std.proofs.Common.{Some, None, refl, sym, ap, ◌∙◌, subst, slice_get}
use Rattle.std.proofs.lemmas.Bool.{cases_eq}
use Rattle.std.proofs.lemmas.Option.{slice_get_within}
use Rattle.std.specs.Prelude.{slice_set}
use std.Path.{fun_ext}
use Rattle.module_format.specs.Contents.{Contents}
use Rattle.machine_state.specs.declared.process.Channel.{Channel}
use Rattle.machine_state.specs.Holding.{Holding, nothing}
use Rattle.machine_state.specs.World.{Role, Join}
use Rattle.machine_state.specs.Ownership.{HoldersIn, IsAmong, Claim, claims, Holders, owner_in}
use Rattle.machine_state.specs.Roles.{own_in, opener_in, opened_in}
use Rattle.machine_state.proofs.Lines.{got_set, got_other, got_last, told_in}
use Rattle.machine_state.proofs.Claims.{IsBehind}
use Rattle.machine_state.proofs.HolderMoves.{GoesOn, Closes, Opens, IsGiven}
use Rattle.machine_state.proofs.HolderMoves as move

-- ---- what a table of roles says of a process

pushed_other : {A : Type 0} (xs : List A) (y : A) (q : ℕ) → length xs ≢ q
    → slice_get (xs ++ y ∷ []) q ≡ slice_get xs q
pushed_other [] y zero differ = absurd (differ refl)
pushed_other [] y (suc q) differ = refl
pushed_other (x ∷ xs) y zero differ = refl
pushed_other (x ∷ xs) y (suc q) differ = pushed_other xs y q (λ e. differ (ap suc e))

got_past : {A : Type 0} (xs : List A) → slice_get xs (length xs) ≡ None
got_past [] = refl
got_past (x ∷ xs) = got_past xs

pub set_twice : {A : Type 0} (xs : List A) (p : ℕ) (x y : A) → slice_set (slice_set xs p x) p y ≡ slice_set xs p y
set_twice [] p x y = refl
set_twice (z ∷ zs) zero x y = refl
set_twice (z ∷ zs) (suc p) x y = ap (λ zs. z ∷ zs) (set_twice zs p x y)

module _ {A : Type 0} (f : Role → A) (d : A) where
  abbrev at : Option Role → A
  at o = elim o as (λ o. A) [ None ↦ d | Some role ↦ f role ]

  pub field_at : (roles : List Role) (p : ℕ) (r : Role) → slice_get roles p ≡ Some r
      → elim (slice_get roles p) as (λ o. A) [ None ↦ d | Some role ↦ f role ] ≡ f r
  field_at roles p r here = ap at here

  pub field_set : (roles : List Role) (p : ℕ) (r new : Role) → slice_get roles p ≡ Some r
      → elim (slice_get (slice_set roles p new) p) as (λ o. A) [ None ↦ d | Some role ↦ f role ] ≡ f new
  field_set roles p r new here = ap at (got_set roles p r new here)

  pub field_other : (roles : List Role) (p : ℕ) (new : Role) (q : ℕ) → p ≢ q
      → elim (slice_get (slice_set roles p new) q) as (λ o. A) [ None ↦ d | Some role ↦ f role ]
      ≡ elim (slice_get roles q) as (λ o. A) [ None ↦ d | Some role ↦ f role ]
  field_other roles p new q differ = ap at (got_other roles p q new differ)

  -- a role was set that has the same there
  pub field_same : (roles : List Role) (p : ℕ) (r new : Role) → slice_get roles p ≡ Some r → f new ≡ f r → (q : ℕ)
      → elim (slice_get (slice_set roles p new) q) as (λ o. A) [ None ↦ d | Some role ↦ f role ]
      ≡ elim (slice_get roles q) as (λ o. A) [ None ↦ d | Some role ↦ f role ]
  field_same roles p r new here same q = elim (cases_eq p q) [
    | inl e ↦ subst (λ n. at (slice_get (slice_set roles p new) n) ≡ at (slice_get roles n)) e
        (field_set roles p r new here ∙ (same ∙ sym (field_at roles p r here)))
    | inr differ ↦ field_other roles p new q differ
  ]

  pub field_pushed : (roles : List Role) (new : Role) (q : ℕ) → length roles ≢ q
      → elim (slice_get (roles ++ new ∷ []) q) as (λ o. A) [ None ↦ d | Some role ↦ f role ]
      ≡ elim (slice_get roles q) as (λ o. A) [ None ↦ d | Some role ↦ f role ]
  field_pushed roles new q differ = ap at (pushed_other roles new q differ)

  pub field_last : (roles : List Role) (new : Role)
      → elim (slice_get (roles ++ new ∷ []) (length roles)) as (λ o. A) [ None ↦ d | Some role ↦ f role ] ≡ f new
  field_last roles new = ap at (got_last roles new)

  pub field_past : (roles : List Role)
      → elim (slice_get roles (length roles)) as (λ o. A) [ None ↦ d | Some role ↦ f role ] ≡ d
  field_past roles = ap at (got_past roles)

-- the role of which a function returns something
pub told_of : {A : Type 0} (f : Role → Option A) (roles : List Role) (p : ℕ) (x : A)
    → elim (slice_get roles p) as (λ o. Option A) [ None ↦ None | Some role ↦ f role ] ≡ Some x
    → (r : Role) × (slice_get roles p ≡ Some r) × (f r ≡ Some x)
told_of f roles p x is = told_in f roles p x is

-- ---- the moves

module _ (m : Contents) (roles : List Role) (channels : List (Option Channel)) (t : HoldersIn m roles channels)
    (p : ℕ) (r : Role) (here : slice_get roles p ≡ Some r) where
  pub own_same : (o : Option Join) → own_in (slice_set roles p (record r { opened = o })) ≡ own_in roles
  own_same o = fun_ext (λ q. field_same (λ (x : Role). x.own) nothing roles p r (record r { opened = o }) here refl q)

  pub opener_same : (o : Option Join) → opener_in (slice_set roles p (record r { opened = o })) ≡ opener_in roles
  opener_same o =
      fun_ext (λ q. field_same (λ (x : Role). x.opener) None roles p r (record r { opened = o }) here refl q)

  pub opened_here : (o : Option Join) → opened_in (slice_set roles p (record r { opened = o })) p ≡ o
  opened_here o = field_set (λ (x : Role). x.opened) None roles p r (record r { opened = o }) here

  pub opened_other : (o : Option Join) (q : ℕ) → p ≢ q
      → opened_in (slice_set roles p (record r { opened = o })) q ≡ opened_in roles q
  opened_other o q differ = field_other (λ (x : Role). x.opened) None roles p (record r { opened = o }) q differ

  pub opened_is : opened_in roles p ≡ r.opened
  opened_is = field_at (λ (x : Role). x.opened) None roles p r here

  -- the same with the holdings and openers as they are there
  with_join : (o : Option Join) (owns : ℕ → Option ℕ)
      → Holders (4 * m.data_words) m.pars (own_in roles) (opener_in roles)
      (opened_in (slice_set roles p (record r { opened = o }))) owns
      → Holders (4 * m.data_words) m.pars (own_in (slice_set roles p (record r { opened = o })))
      (opener_in (slice_set roles p (record r { opened = o })))
      (opened_in (slice_set roles p (record r { opened = o }))) owns
  with_join o owns h = subst (λ (own : ℕ → Holding). Holders (4 * m.data_words) m.pars own
      (opener_in (slice_set roles p (record r { opened = o })))
      (opened_in (slice_set roles p (record r { opened = o }))) owns) (sym (own_same o))
      (subst (λ (opener : ℕ → Option ℕ). Holders (4 * m.data_words) m.pars (own_in roles) opener
      (opened_in (slice_set roles p (record r { opened = o }))) owns) (sym (opener_same o)) h)

  -- its join goes on
  pub join_goes_on : (j k : Join)
      → GoesOn (own_in roles) (opener_in roles) (opened_in roles)
      (opened_in (slice_set roles p (record r { opened = Some k }))) p j k
      → HoldersIn m (slice_set roles p (record r { opened = Some k })) channels
  join_goes_on j k g = with_join (Some k) (owner_in channels)
      (move.goes_on t p j k (opened_in (slice_set roles p (record r { opened = Some k }))) g)

  pub join_closes : (j : Join) (cells : List (Option Channel))
      → Closes (opened_in roles) (opened_in (slice_set roles p (record r { opened = None }))) (owner_in channels)
      (owner_in cells) p j
      → HoldersIn m (slice_set roles p (record r { opened = None })) cells
  join_closes j cells g = with_join None (owner_in cells)
      (move.closes t p j (opened_in (slice_set roles p (record r { opened = None }))) (owner_in cells) g)

  pub join_opens : (j : Join) (cells : List (Option Channel))
      → Opens m.pars (own_in roles) (opened_in roles) (opened_in (slice_set roles p (record r { opened = Some j })))
      (owner_in channels) (owner_in cells) p j
      → HoldersIn m (slice_set roles p (record r { opened = Some j })) cells
  join_opens j cells g = with_join (Some j) (owner_in cells)
      (move.opens t p j (opened_in (slice_set roles p (record r { opened = Some j }))) (owner_in cells) g)

  -- it gives back what it had
  pub gives_back : r.opened ≡ None → HoldersIn m (slice_set roles p (record r { own = nothing })) channels
  gives_back none =
      let gone = record r { own = nothing } in
      let opener = fun_ext (λ q. field_same (λ (x : Role). x.opener) None roles p r gone here refl q) in
      let opened = fun_ext (λ q. field_same (λ (x : Role). x.opened) None roles p r gone here refl q) in
      subst (λ (f : ℕ → Option ℕ). Holders (4 * m.data_words) m.pars (own_in (slice_set roles p gone)) f
      (opened_in (slice_set roles p gone)) (owner_in channels)) (sym opener)
      (subst (λ (f : ℕ → Option Join). Holders (4 * m.data_words) m.pars (own_in (slice_set roles p gone))
      (opener_in roles) f (owner_in channels)) (sym opened)
      (move.given_back t p (own_in (slice_set roles p gone)) (record {
        none = opened_is ∙ none;
        here = field_set (λ (x : Role). x.own) nothing roles p r gone here;
        others = λ q differ. field_other (λ (x : Role). x.own) nothing roles p gone q differ;
      })))

  -- a branch comes to its join
  pub branch_comes : (j : Join) (given : Holding) → r.opened ≡ Some j → IsAmong (length roles) j.members
      → ((c : Claim) → claims given c ≡ true → IsBehind (4 * m.data_words) c
      ⊎ IsGiven (own_in roles) (opener_in roles) (opened_in roles) (owner_in channels) p j c)
      → HoldersIn m (roles ++ record { own = given; opener = Some p; opened = None } ∷ []) channels
  branch_comes j given is member from =
      let new : Role = record { own = given; opener = Some p; opened = None } in
      let opened : opened_in (roles ++ new ∷ []) ≡ opened_in roles = fun_ext (λ q. elim (cases_eq (length roles) q) [
        | inl e ↦ subst (λ n. opened_in (roles ++ new ∷ []) n ≡ opened_in roles n) e
            (field_last (λ (x : Role). x.opened) None roles new
            ∙ sym (field_past (λ (x : Role). x.opened) None roles))
        | inr differ ↦ field_pushed (λ (x : Role). x.opened) None roles new q differ
      ]) in
      subst (λ (f : ℕ → Option Join). Holders (4 * m.data_words) m.pars (own_in (roles ++ new ∷ []))
      (opener_in (roles ++ new ∷ [])) f (owner_in channels)) (sym opened)
      (move.comes t p (length roles) j given (own_in (roles ++ new ∷ [])) (opener_in (roles ++ new ∷ [])) (record {
        is = opened_is ∙ is;
        low = slice_get_within roles p r here;
        fresh = λ s o by.
            let x = told_of (λ (x : Role). x.opener) roles s o by in slice_get_within roles s x.0 x.1;
        shut = field_past (λ (x : Role). x.opened) None roles;
        here = field_last (λ (x : Role). x.own) nothing roles new;
        others = λ q differ. field_pushed (λ (x : Role). x.own) nothing roles new q differ;
        opens_new = field_last (λ (x : Role). x.opener) None roles new;
        by_others = λ q differ. field_pushed (λ (x : Role). x.opener) None roles new q differ;
        member = member;
        from = from;
      }))
