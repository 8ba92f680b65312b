-- What tests by numbers of rows and contexts say of the branch that was found, and what is known of the labels' costs.
use Rattle.std.proofs.Common.{◌≡◌, ℕ, ◌+◌, ℤ, Bool, true, false, ◌&&◌, List, Option, Some, None, refl, sym, ap, ◌∙◌}
use Rattle.std.proofs.Common.{arith, slice_get}
use Rattle.std.specs.Prelude.{sum_by}
use Rattle.std.specs.List.{list_all}
use Rattle.std.proofs.lemmas.Bool.{and_from}
use Rattle.std.proofs.Math.Bool.{and-true}
use Rattle.module_format.specs.declared.rows.Interval.{Interval}
use Rattle.module_format.specs.Contents.{Contents, Par, Branch, Label, label_at}
use Rattle.certificate.specs.Branches.{numbered_branch}
use Rattle.certificate.specs.Rights.{is_among, may_write_word, has_word}
use Rattle.certificate.specs.Starting.{is_written, is_written_in, leaves_loops, leaves_loops_of}
use Rattle.certificate.specs.Starting.{gives_words, may_give_words, label_is_seen, entry_is_seen}
use Rattle.module_format.specs.Contexts.{context_at}
use Rattle.states.specs.declared.known.Mode.{Mode}
use Rattle.states.specs.declared.known.Mode.TheVariants.{Plain, Enabling, Disabling, Starting}
use Rattle.states.specs.State.{State, entry_fact}
use Rattle.states.specs.Below.{View, agrees, is_whole, price}
use Rattle.states.specs.Comparing.{stands}
use Rattle.states.specs.Rows.{AreApart}
use Rattle.states.specs.Cutting.{SaysOutside}
use Rattle.par_rules.specs.Costs.{IsCostOf, IsCostAfter}
use Rattle.par_rules.specs.ParRules.{label_after}
use Rattle.par_rules.proofs.WordTests.{written-passes}

-- ---- rows and contexts

pub written_in : (m : Contents) (row : ℕ) (par : Par) (k : ℤ) → slice_get m.pars row ≡ Some par
    → is_written_in m row k ≡ is_written par k
written_in m row par k is =
    ap (λ (o : Option Par). elim o [ None ↦ false | Some p ↦ is_written p k ]) is

pub left_loops : (m : Contents) (row : ℕ) (par : Par) → slice_get m.pars row ≡ Some par
    → leaves_loops_of m row ≡ leaves_loops m par
left_loops m row par is = ap (λ (o : Option Par). elim o [ None ↦ true | Some p ↦ leaves_loops m p ]) is

pub given_words : (m : Contents) (giver n : ℕ) (par : Par) (b : Branch) → numbered_branch m n ≡ Some (par, b)
    → gives_words m giver n ≡ may_give_words m giver b
given_words m giver n par b is =
    ap (λ (o : Option (Par × Branch)). elim o [ None ↦ true | Some found ↦ may_give_words m giver found.1 ]) is

pub seen_label : (m : Contents) (n : ℕ) (par : Par) (b : Branch) (t : Label) → numbered_branch m n ≡ Some (par, b)
    → label_at m b.entry ≡ Some t → label_is_seen m n ≡ list_all (entry_is_seen m n b.workspace) t.entries
seen_label m n par b t is at =
    ap (λ (o : Option (Par × Branch)). elim o [
      | None ↦ true
      | Some found ↦ elim (label_at m found.1.entry) [
        | None ↦ true
        | Some t ↦ list_all (entry_is_seen m n found.1.workspace) t.entries
      ]
    ]) is
    ∙ ap (λ (o : Option Label). elim o [
      | None ↦ true
      | Some t ↦ list_all (entry_is_seen m n b.workspace) t.entries
    ]) at

and-false : (b : Bool) → b && false ≡ false
and-false true = refl
and-false false = refl

-- a branch may write no word that its intervals have not
pub unwritten_by : (m : Contents) (n : ℕ) (par : Par) (b : Branch) (k : ℤ) → numbered_branch m n ≡ Some (par, b)
    → is_among b.writes k ≡ false → may_write_word m n k ≡ false
unwritten_by m n par b k is none =
    ap (λ (o : Option (Par × Branch)). has_word (context_at m n) k
    && elim o [ None ↦ true | Some found ↦ is_among found.1.writes k ]) is
    ∙ (ap (λ (c : Bool). has_word (context_at m n) k && c) none ∙ and-false (has_word (context_at m n) k))

-- what is compared is the label after the PAR
pub after_is : (m : Contents) (mode : Mode) (par : Par) (t : Label) → Some t ≡ label_after m mode par
    → label_at m par.successor ≡ Some t
after_is m Plain par t is = sym is
after_is m Enabling par t is = absurd (cc)
after_is m (Disabling done) par t is = absurd (cc)
after_is m (Starting row started) par t is = absurd (cc)

-- ---- costs that are known

-- the label after a PAR agrees where what it says is known of words that no branch writes
pub cost_is_after : (par : Par) (s : State) (t : Label) (written : List Interval) (paid total : ℕ)
    → AreApart t.entries → ((k : ℤ) → is_among written k ≡ is_written par k)
    → SaysOutside written s.frame (entry_fact t.entries) → list_all (is_whole s.frame) t.entries ≡ true
    → sum_by (price s.frame) t.entries ≡ paid → total ≡ paid + t.number → IsCostAfter par s (Some t) total
cost_is_after par s t written paid total apart words outside whole due total_is = record {
  agrees = and_from _ _ (written-passes par s.frame t written apart words outside) whole;
  due = omega (arith, due, total_is);
}

-- where the words of a label are known, a view agrees with it if it is where the label is (stands there)
pub agrees_standing : (v : View) (t : Label) (price : ℕ) → IsCostOf v t price → stands v t ≡ agrees v t
agrees_standing v t price known =
    sym (ap (λ (b : Bool). stands v t && b && list_all (is_whole v.frame) t.entries) known.hold
    ∙ (ap (λ (b : Bool). stands v t && true && b) known.whole
    ∙ (and-true (stands v t && true) ∙ and-true (stands v t))))
