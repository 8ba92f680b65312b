-- What holds of the guards of a process in an alternation once it has begun, enabled, waited or disabled.
use Rattle.std.proofs.Common.{◌≡◌, ◌≢◌, ◌⊎◌, ℕ, ◌+◌, ◌≤◌, ◌<◌, ℤ, Bool, true, false, inl, inr, List, [], ◌∷◌}
use Rattle.std.proofs.Common.{length, Option, Some, None, refl, sym, ap, ◌∙◌, subst, arith}
use Rattle.std.proofs.lemmas.Bool.{cases_eq, cases_lt, cases_Bool}
use Rattle.std.proofs.lemmas.Option.{slice_get_within}
use Rattle.std.specs.Prelude.{slice_get}
use Rattle.small_laws.proofs.Options.{same_some}
use Rattle.small_laws.proofs.Lookups.{slice_get-append_left}
use Rattle.module_format.specs.Contents.{Contents}
use Rattle.module_format.specs.declared.rows.Direction.TheVariants.{In}
use Rattle.module_format.specs.declared.rows.EndKind.{EndKind}
use Rattle.machine_state.specs.declared.process.Mode.TheVariants as modes
use Rattle.machine_state.specs.declared.process.Task.{Task}
use Rattle.machine_state.specs.EnabledLaws.{HasReady}
use Rattle.machine_state.specs.Holding.{Holding}
use Rattle.machine_state.specs.Memory.{Memory}
use Rattle.machine_state.specs.Site.{Local}
use Rattle.machine_state.specs.World.{World}
use Rattle.machine_state.proofs.Lines.{got_set, got_other, got_last, got_either, set_either}
use Rattle.states.specs.declared.known.Guard.{Guard}
use Rattle.states.specs.declared.known.GuardKind.{GuardKind}
use Rattle.states.specs.declared.known.GuardKind.TheVariants.{Channel as AtChannel, Skip}
use Rattle.states.specs.State.{State}
use Rattle.rulings.specs.Meaning.{Activation}
use Rattle.rulings.specs.Regions.{scope_of, channel_address, HoldsNamed}
use Rattle.rulings.specs.Guarding.{guard_value, first_left, GuardsFit}
use Rattle.rulings.specs.Fitting.{Situation, Enables, Disables}
use Rattle.certified_worlds.specs.Alternating.{IsTrueGuard, IsTrueSkip, EnablesAt, AlternatesHere}
use Rattle.certified_worlds.proofs.Carrying.{MustBeReady}

-- two values of one word
same_value : {o : Option ℤ} {v u : ℤ} → o ≡ Some v → o ≡ Some u → v ≡ u
same_value {o} {v} {u} a b = let e : Some v ≡ Some u = sym a ∙ b in cc

-- ---- no guards

-- an alternation that begins: nothing is enabled
pub fresh_guards : (m : Contents) (w : World) (p : ℕ) (u : Task) (s : State) (act : Activation) → s.guards ≡ []
    → ((address : ℕ) → EnablesAt w p address → ⊥) → u.mode ≡ modes.Enabling false → AlternatesHere m w p u s act
fresh_guards m w p u s act none nothing enabling = record {
  fit = record {
    apart = λ i j g h kind here there first second. absurd (empty i g here);
    held = λ i g kind here is. absurd (empty i g here);
    read = λ i g word here is. absurd (empty i g here);
    stays = λ i g word here is taken. empty i g here;
  };
  values = λ n g here. absurd (empty n g here);
  only = λ address enables. absurd (nothing address enables);
  back = λ g kind holds is. absurd (empty holds.number g holds.here);
  exits = λ distance is.
      let no' : modes.Enabling false ≡ modes.Disabling (Some distance) = sym enabling ∙ is in absurd (cc);
  ready = λ must. elim must [
    | inl so ↦ let no' : modes.Enabling false ≡ modes.Enabling true = sym enabling ∙ so in absurd (cc)
    | inr so ↦ let no' : modes.Enabling false ≡ modes.Disabling None = sym enabling ∙ so.0 in absurd (cc)
  ];
}
  where
    empty : (i : ℕ) (g : Guard) → slice_get s.guards i ≡ Some g → ⊥
    empty i g here =
        let there = subst (λ (guards : List Guard). slice_get guards i ≡ Some g) none here in
        let low = slice_get_within [] i g there in
        omega (arith, low)

-- ---- one guard more

module _ (m : Contents) (x : Situation) (kind : GuardKind) (holds : Bool) (next : State) (l : Local)
    (more : Enables x kind holds next l) where
  abbrev new : Guard
  new = record { kind = kind; name = more.name; exit = None }

  -- a guard in the list was in the list before, or is the new one
  grown_either : (n : ℕ) (g : Guard) → slice_get next.guards n ≡ Some g
      → (slice_get x.before.guards n ≡ Some g) ⊎ ((n ≡ length x.before.guards) × (g ≡ new))
  grown_either n g here = got_either x.before.guards new n g
      (subst (λ (guards : List Guard). slice_get guards n ≡ Some g) more.list here)

  -- a guard that is true
  abbrev TrueBefore : Guard → Type 0
  TrueBefore g = IsTrueGuard x.memory x.act x.before g

  abbrev TrueAfter : Memory → Guard → Type 0
  TrueAfter memory g = IsTrueGuard memory x.act next g

  none_left : first_left x.before.mode ≡ 0
  none_left = ap first_left more.before

  module _ (memory : Memory) (same : memory ≡ l.memory) where
    values_as : (g : Guard) → guard_value memory x.act g.name ≡ guard_value x.memory x.act g.name
    values_as g = ap (λ (memory : Memory). guard_value memory x.act g.name) (same ∙ more.memory)

    grown_true : (g : Guard) → TrueAfter memory g → TrueBefore g ⊎ ((g ≡ new) × (holds ≡ true))
    grown_true g now = elim (grown_either now.number g now.here) [
      | inl old ↦ inl (record {
        number = now.number;
        left = let none = none_left in omega (arith, none);
        here = old;
        value = now.value;
        is = sym (values_as g) ∙ now.is;
        holds = now.holds;
      })
      | inr last ↦ inr (
        last.1,
        elim (cases_Bool holds) [
          | inl so ↦ so
          | inr not_so ↦
              let value = same_value (sym (values_as new) ∙ ap (λ (g : Guard). guard_value memory x.act g.name) (sym
              last.1)
              ∙ now.is) more.truth.is in
              absurd (now.holds (value ∙ more.truth.no not_so))
        ],
      )
    ]

    grown_from : (g : Guard) → TrueBefore g → TrueAfter memory g
    grown_from g old = record {
      number = old.number;
      left = let none = ap first_left more.mode in omega (arith, none);
      here = subst (λ (guards : List Guard). slice_get guards old.number ≡ Some g) (sym more.list)
          (slice_get-append_left x.before.guards (new ∷ []) old.number g old.here);
      value = old.value;
      is = values_as g ∙ old.is;
      holds = old.holds;
    }

    grown_new : holds ≡ true → TrueAfter memory new
    grown_new so = record {
      number = length x.before.guards;
      left = let none = ap first_left more.mode in omega (arith, none);
      here = subst (λ (guards : List Guard). slice_get guards (length x.before.guards) ≡ Some new) (sym more.list)
          (got_last x.before.guards new);
      value = more.truth.value;
      is = values_as new ∙ more.truth.is;
      holds = more.truth.yes so;
    }

  -- the channel of the new guard is at an address
  abbrev pub IsNewAt : ℕ → Type 0
  IsNewAt address = (channel : EndKind) × (kind ≡ AtChannel channel) × (channel_address x.act.layout channel ≡ address)

  pub grown_guards : (w after : World) (p : ℕ) (t u : Task) → AlternatesHere m w p t x.before x.act
      → w.memory ≡ x.memory
      → after.memory ≡ l.memory → x.m ≡ m
      → ((address : ℕ) → EnablesAt after p address
      → EnablesAt w p address ⊎ ((holds ≡ true) × IsNewAt address))
      → ((address : ℕ) → EnablesAt w p address → EnablesAt after p address)
      → ((address : ℕ) → holds ≡ true → IsNewAt address → EnablesAt after p address)
      → ((b : Bool) × (u.mode ≡ modes.Enabling b))
      → (MustBeReady u → HasReady after.tasks after.channels after.links.inputs p
      ⊎ (IsTrueSkip w.memory x.act x.before ⊎ ((holds ≡ true) × (kind ≡ Skip))))
      → AlternatesHere m after p u next x.act
  grown_guards w after p t u old memory same module_is only back_old back_new enabling ready = record {
    fit = subst (λ (m : Contents). GuardsFit m next) module_is
        (more.keeps.fit (subst (λ (m : Contents). GuardsFit m x.before) (sym module_is) old.fit));
    values = λ n g here. elim (grown_either n g here) [
      | inl before ↦ let v = old.values n g before in (
        v.0,
        values_as after.memory same g ∙ ap (λ (memory : Memory). guard_value memory x.act g.name) (sym
            memory) ∙ v.1,
      )
      | inr last ↦ (
        more.truth.value,
        ap (λ (g : Guard). guard_value after.memory x.act g.name) last.1
            ∙ (values_as after.memory same new ∙ more.truth.is),
      )
    ];
    only = λ address enables. elim (only address enables) [
      | inl before ↦
          let was = old.only address before in
          record {
            guard = was.guard;
            holds = grown_from after.memory same was.guard (true_in was.guard was.holds);
            kind = was.kind;
            is = was.is;
            there = was.there;
          }
      | inr it ↦ record {
        guard = new;
        holds = grown_new after.memory same it.0;
        kind = it.1.0;
        is = it.1.1;
        there = it.1.2;
      }
    ];
    back = λ g channel now is. elim (grown_true after.memory same g now) [
      | inl before ↦ back_old _ (old.back g channel (true_of g before) is)
      | inr it ↦ back_new _ it.1 (channel, ap (λ (g : Guard). g.kind) (sym it.0) ∙ is, refl)
    ];
    exits = λ distance is.
        let no' : modes.Enabling enabling.0 ≡ modes.Disabling (Some distance) = sym enabling.1 ∙ is in absurd (cc);
    ready = λ must. elim (ready must) [
      | inl is ↦ inl is
      | inr (inl skip) ↦ inr (record {
        guard = skip.guard;
        holds = grown_from after.memory same skip.guard (true_in skip.guard skip.holds);
        is = skip.is;
      })
      | inr (inr it) ↦ inr (record { guard = new; holds = grown_new after.memory same it.0; is = it.1 })
    ];
  }
    where
      true_in : (g : Guard) → IsTrueGuard w.memory x.act x.before g → TrueBefore g
      true_in g holds = subst (λ (memory : Memory). IsTrueGuard memory x.act x.before g) memory holds

      true_of : (g : Guard) → TrueBefore g → IsTrueGuard w.memory x.act x.before g
      true_of g holds = subst (λ (memory : Memory). IsTrueGuard memory x.act x.before g) (sym memory) holds

-- ---- one guard less

module _ (m : Contents) (x : Situation) (kind : GuardKind) (holds : Bool) (distance : ℤ) (next : State) (l : Local)
    (less : Disables x kind holds distance next l) where
  abbrev done : ℕ
  done = less.done

  abbrev gone : Guard
  gone = record less.guard { exit = Some distance }

  -- the channel of the guard that is disabled is at an address
  abbrev pub IsGoneAt : ℕ → Type 0
  IsGoneAt address = (channel : EndKind) × (kind ≡ AtChannel channel) × (channel_address x.act.layout channel ≡ address)

  less_either : (n : ℕ) (g : Guard) → slice_get next.guards n ≡ Some g
      → ((done ≡ n) × (g ≡ gone)) ⊎ ((done ≢ n) × (slice_get x.before.guards n ≡ Some g))
  less_either n g here = set_either x.before.guards done gone n g
      (subst (λ (guards : List Guard). slice_get guards n ≡ Some g) less.list here)

  module _ (w after : World) (p : ℕ) (t u : Task) (old : AlternatesHere m w p t x.before x.act) (memory : w.memory ≡
      x.memory)
      (same : after.memory ≡ l.memory) (module_is : x.m ≡ m) (h : Holding)
      (named : HoldsNamed m h (scope_of m x.before.context x.act.layout) w.memory) where
    old_fit : GuardsFit x.m x.before
    old_fit = subst (λ (m : Contents). GuardsFit m x.before) (sym module_is) old.fit

    value_as : (n : ℕ) (g : Guard) → slice_get x.before.guards n ≡ Some g
        → guard_value after.memory x.act g.name ≡ guard_value w.memory x.act g.name
    value_as n g here = ap (λ (memory : Memory). guard_value memory x.act g.name) same
        ∙ (less.keeps.values old_fit n g here ∙ ap (λ (memory : Memory). guard_value memory x.act g.name) (sym memory))

    -- a guard that is left is true, and is not the one that is disabled
    record WasTrue (g : Guard) : Type 0 where
      old_one : IsTrueGuard w.memory x.act x.before g
      behind : done < old_one.number

    was_true : (g : Guard) → IsTrueGuard after.memory x.act next g → WasTrue g
    was_true g now =
        let low = now.left in
        let first : first_left next.mode ≡ done + 1 = ap first_left less.mode in
        elim (less_either now.number g now.here) [
          | inl it ↦ let same_number = it.0 in absurd (omega (arith, low, first, same_number))
          | inr other ↦ record {
            old_one = record {
              number = now.number;
              left = let before : first_left x.before.mode ≡ done = ap first_left less.before in
                  omega (arith, before, low, first);
              here = other.1;
              value = now.value;
              is = sym (value_as now.number g other.1) ∙ now.is;
              holds = now.holds;
            };
            behind = omega (arith, low, first);
          }
        ]

    is_true : (g : Guard) (was : IsTrueGuard w.memory x.act x.before g) → (was.number ≡ done → ⊥)
        → IsTrueGuard after.memory x.act next g
    is_true g was other =
        let low = was.left in
        let before : first_left x.before.mode ≡ done = ap first_left less.before in
        let first : first_left next.mode ≡ done + 1 = ap first_left less.mode in
        record {
          number = was.number;
          left = elim (cases_eq was.number done) [
            | inl it ↦ absurd (other it)
            | inr differ ↦ subst (λ (n : ℕ). n ≤ was.number) (sym first)
                (above done was.number (subst (λ (n : ℕ). n ≤ was.number) before low) (λ e. differ (sym e)))
          ];
          here = subst (λ (guards : List Guard). slice_get guards was.number ≡ Some g) (sym less.list)
              (got_other x.before.guards done was.number gone (λ e. other (sym e)) ∙ was.here);
          value = was.value;
          is = value_as was.number g was.here ∙ was.is;
          holds = was.holds;
        }
      where
        above : (a b : ℕ) → a ≤ b → (a ≡ b → ⊥) → a + 1 ≤ b
        above a b low differ = elim (cases_lt a b) [
          | inl under ↦ omega (arith, under)
          | inr over ↦ absurd (differ (omega (arith, low, over)))
        ]

    -- the guard that is disabled, where it is true
    record IsDisabled (g : Guard) : Type 0 where
      is : g ≡ less.guard
      yes : holds ≡ true

    disabled_true : (g : Guard) (was : IsTrueGuard w.memory x.act x.before g) → was.number ≡ done → IsDisabled g
    disabled_true g was number =
        let it = same_some (slice_get x.before.guards done) g less.guard
        (subst (λ (n : ℕ). slice_get x.before.guards n ≡ Some g) number was.here) less.there in
        record {
          is = it;
          yes = elim (cases_Bool holds) [
            | inl so ↦ so
            | inr not_so ↦
                let value = same_value
                (ap (λ (memory : Memory). guard_value memory x.act less.guard.name) (sym memory)
                ∙ (ap (λ (g : Guard). guard_value w.memory x.act g.name) (sym it) ∙ was.is)) less.truth.is in
                absurd (was.holds (value ∙ less.truth.no not_so))
          ];
        }

    -- a channel of another guard is at another address
    other_address : (g : Guard) (channel it : EndKind) (n : ℕ) → slice_get x.before.guards n ≡ Some g
        → g.kind ≡ AtChannel channel → kind ≡ AtChannel it → channel_address x.act.layout it ≡ channel_address
        x.act.layout channel
        → n ≡ done
    other_address g channel it n here is this at =
        let mine = less.kind_is ∙ this in
        let one = named.differ it channel In (old.fit.held done less.guard it less.there mine)
        (old.fit.held n g channel here is) at in
        old.fit.apart n done g less.guard channel here less.there is
        (subst (λ (c : EndKind). less.guard.kind ≡ AtChannel c) one mine)

    pub less_guards : ((address : ℕ) → EnablesAt after p address
        → EnablesAt w p address × (holds ≡ true → IsGoneAt address → ⊥))
        → ((address : ℕ) → (holds ≡ true → IsGoneAt address → ⊥) → EnablesAt w p address → EnablesAt after p address)
        → ((d : ℤ) → u.mode ≡ modes.Disabling (Some d) → (d ≡ distance) ⊎ (t.mode ≡ modes.Disabling (Some d)))
        → (MustBeReady u → HasReady after.tasks after.channels after.links.inputs p
        ⊎ (IsTrueSkip w.memory x.act x.before × (kind ≡ Skip → holds ≡ true → ⊥)))
        → AlternatesHere m after p u next x.act
    less_guards only back exits ready = record {
      fit = subst (λ (m : Contents). GuardsFit m next) module_is (less.keeps.fit old_fit);
      values = λ n g here. elim (less_either n g here) [
        | inl it ↦
            let v = old.values done less.guard less.there in (
              v.0,
              ap (λ (g : Guard). guard_value after.memory x.act g.name) it.1
                  ∙ (value_as done less.guard less.there ∙ v.1),
            )
        | inr other ↦ let v = old.values n g other.1 in (v.0, value_as n g other.1 ∙ v.1)
      ];
      only = λ address enables.
          let before = only address enables in
          let was = old.only address before.0 in
          record {
            guard = was.guard;
            holds = is_true was.guard was.holds (λ number.
                let it = disabled_true was.guard was.holds number in
                before.1 it.yes (
                  was.kind,
                  sym less.kind_is
                      ∙ (ap (λ (g : Guard). g.kind) (sym it.is) ∙ was.is),
                  was.there,
                ));
            kind = was.kind;
            is = was.is;
            there = was.there;
          };
      back = λ g channel now is.
          let was = was_true g now in
          back _ (λ so at.
          let number = other_address g channel at.0 was.old_one.number was.old_one.here is at.1 at.2 in
          let behind = was.behind in
          omega (arith, number, behind)) (old.back g channel was.old_one is);
      exits = λ d is. elim (exits d is) [
        | inl now ↦ record {
          number = done;
          disabled = let first : first_left next.mode ≡ done + 1 = ap first_left less.mode in omega (arith, first);
          guard = gone;
          here = subst (λ (guards : List Guard). slice_get guards done ≡ Some gone) (sym less.list)
              (got_set x.before.guards done less.guard gone less.there);
          exit = ap Some (sym now);
        }
        | inr before ↦
            let e = old.exits d before in
            let low = e.disabled in
            let was : first_left x.before.mode ≡ done = ap first_left less.before in
            let first : first_left next.mode ≡ done + 1 = ap first_left less.mode in
            record {
              number = e.number;
              disabled = omega (arith, low, was, first);
              guard = e.guard;
              here = subst (λ (guards : List Guard). slice_get guards e.number ≡ Some e.guard) (sym less.list)
                  (got_other x.before.guards done e.number gone (λ number. omega (arith, low, was, number)) ∙ e.here);
              exit = e.exit;
            }
      ];
      ready = λ must. elim (ready must) [
        | inl is ↦ inl is
        | inr skip ↦ inr (record {
          guard = skip.0.guard;
          holds = is_true skip.0.guard skip.0.holds (λ number.
              let it = disabled_true skip.0.guard skip.0.holds number in
              skip.1 (sym less.kind_is ∙ (ap (λ (g : Guard). g.kind) (sym it.is) ∙ skip.0.is)) it.yes);
          is = skip.0.is;
        })
      ];
    }
