use Rattle.std.proofs.Common.{◌≡◌, ℕ, Option, Some, None, ◌∙◌, sym, ap, subst, refl, arith, true, eqb, ◌<◌, inl, inr}
use Rattle.std.specs.Option.{option_eq}
use Rattle.std.proofs.lemmas.Bool.Decides.{eqb_tells}
use Rattle.module_format.specs.Contents.{contents_of, par_of, branch_of}
use Rattle.certificate.specs.Around.{IsRowOf}
use Rattle.certificate.proofs.AroundLaws.{around_beside, around_entered, context_below}
use Rattle.certificate.proofs.around.Around.+enter.Goals as goal

-- two rows for which the test says that they are the same
same_row : (a b : Option ℕ) → option_eq eqb a b ≡ true → a ≡ b
same_row None None e = refl
same_row None (Some y) e = absurd cc
same_row (Some x) None e = absurd cc
same_row (Some x) (Some y) e = elim (eqb_tells x y) [
  | inl same ↦ ap (λ (n : ℕ). Some n) same.1
  | inr other ↦ absurd (let no = sym other.0 ∙ e in cc)
]

pub returns-then-eq-clause-around : goal.returns-then-eq-clause-around
returns-then-eq-clause-around t c =
    let m = contents_of c.args.tables.now in
    let same = same_row c.row_of.result c.row_of-row.result (sym c.eq.ensures ∙ c.if-eq.true) in
    around_beside m c.requires.keeps c.args.self.now (record {
      context = c.args.context;
      lengths = c.args.self.now.lengths;
      saved = c.args.self.now.saved;
    }) c.row_of-row.result (subst (λ (o : Option ℕ). IsRowOf m c.args.self.now.context o) same c.row_of.ensures)
    c.row_of-row.ensures c.requires.around refl refl

pub returns-in_default-clause-around : goal.returns-in_default-clause-around
returns-in_default-clause-around t c =
    around_beside (contents_of c.args.tables.now) c.requires.keeps c.leave_until.new.self (record {
      context = c.args.context;
      lengths = c.leave_until.new.self.lengths;
      saved = c.leave_until.new.self.saved;
    }) None (c.in_ok-leave_until.ensures.outside refl) c.in_default.ensures.found
    c.in_ok-leave_until.ensures.around refl
    refl

pub enter-requires : goal.enter-requires
enter-requires t c =
    let below = context_below (contents_of c.args.tables.now) c.requires.keeps c.args.context
    (par_of c.in-Some.par.now, branch_of c.in-Some._branch.now) c.in-Some.ensures.found in
    let outer : c.from-outer.result < t =
    let d = c.decreases in let e = c.from-outer.ensures in omega (arith, d, e, below) in
    (outer, (c.requires.keeps, (c.requires.places, c.in_ok-leave_until-2.ensures.around)))

pub returns-clause-around : goal.returns-clause-around
returns-clause-around t c =
    around_entered (contents_of c.args.tables.now) c.requires.keeps c.enter.new.self (record {
      context = c.args.context;
      lengths = c.give.new.lengths;
      saved = c.push.new.self;
    }) (par_of c.in-Some.par.now, branch_of c.in-Some._branch.now) c.in_ok-saved.saved c.in-Some.ensures.found
    c.in_ok-enter.ensures.around (c.in_ok-enter.ensures.there ∙ c.from-outer.ensures)
    (rw c.deref.ensures.value at c.in_ok-saved.ensures) c.in_ok-push.ensures.items
    (rw c.deref-2.ensures.value at c.in_ok-give.ensures)
