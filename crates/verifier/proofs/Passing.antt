-- The pass, one instruction after another, against the verdict.
use Rattle.std.proofs.Common.{◌≡◌, ℕ, zero, suc, ◌+◌, ◌-◌, ◌≤◌, ◌<◌, Bool, true, false, cond, leb, length, Option, Some}
use Rattle.std.proofs.Common.{None, Result, Ok, Err, refl, sym, ap, ◌∙◌, subst, arith, inl, inr}
use Rattle.std.proofs.lemmas.Bool.{cases_eq}
use Rattle.std.proofs.lemmas.Bool.Decides.{leb_tells}
use Rattle.prefix_decoder.specs.declared.decoding.Instr.{Instr}
use Rattle.prefix_decoder.specs.declared.decoding.DecodeFault.{DecodeFault}
use Rattle.prefix_decoder.specs.Fetching.{fetched}
use Rattle.module_format.specs.Contents.{Contents}
use Rattle.certificate.specs.Starts.{is_start}
use Rattle.states.specs.declared.rule.Rule.{Rule}
use Rattle.states.specs.declared.rule.Rule.TheVariants as rules
use Rattle.states.specs.State.{State, root_state}
use Rattle.verifier.specs.declared.stop.Stop.{Stop}
use Rattle.verifier.specs.declared.stop.Stop.TheVariants as stops
use Rattle.verifier.specs.Judge.{past_starts, past_rule, past_spelling, judged_at, start_among, refused, at_the_end}
use Rattle.verifier.specs.Judge.{judge, verdict}
use Rattle.verifier.specs.Judging.{falling_state, StopsBy}
use Rattle.verifier.specs.Walking.{OnTheWay}
use Rattle.verifier.proofs.Judging.{judge_end}

-- ---- the verdict from an offset on

pub start : (m : Contents) → OnTheWay m 0 (Some (root_state m))
start m = record { fuel = length m.code; enough = omega arith; same = refl }

-- one step more
pub record Further (m : Contents) (at : ℕ) (before : Option State) : Type 0 where
  pub fuel : ℕ
  pub enough : length m.code ≤ at + suc fuel
  pub same : past_spelling m (λ to after. judge fuel m to after) at before (fetched m.code at) ≡ verdict m

further-by : (m : Contents) (at fuel : ℕ) (before : Option State) → at < length m.code → length m.code ≤ at + fuel
    → judge fuel m at before ≡ verdict m → Further m at before
unfolding judge
further-by m at zero before low enough same = absurd (omega arith)
further-by m at (suc n) before low enough same =
    let inside : leb (length m.code) at ≡ false =
    elim (leb_tells (length m.code) at) [ inl t ↦ absurd (omega (arith, t.1)) | inr t ↦ t.0 ] in
    record {
      fuel = n;
      enough = enough;
      same = sym (ap (λ (b : Bool). cond b (at_the_end at before)
          (past_spelling m (λ to after. judge n m to after) at before (fetched m.code at))) inside) ∙ same;
    }

further : (m : Contents) (at : ℕ) (before : Option State) → at < length m.code → OnTheWay m at before
    → Further m at before
further m at before low w = further-by m at w.fuel before low w.enough w.same

-- where there is no spelling
pub misspelled-is : (m : Contents) (at : ℕ) (before : Option State) (e : DecodeFault) → at < length m.code
    → OnTheWay m at before → fetched m.code at ≡ Err e → verdict m ≡ refused rules.Spelling at
misspelled-is m at before e low w sp =
    let f = further m at before low w in
    sym f.same ∙ ap (past_spelling m (λ to after. judge f.fuel m to after) at before) sp

judged-is : (m : Contents) (at : ℕ) (before : Option State) (i : Instr) (judged : Result (Option State) Rule)
    (low : at < length m.code) (w : OnTheWay m at before) → fetched m.code at ≡ Ok i → judged_at m at before i ≡ judged
    → verdict m ≡ past_rule m (λ to after. judge (further m at before low w).fuel m to after) at i.len judged
judged-is m at before i judged low w sp j =
    let f = further m at before low w in
    sym f.same ∙ ap (past_spelling m (λ to after. judge f.fuel m to after) at before) sp
    ∙ ap (past_rule m (λ to after. judge f.fuel m to after) at i.len) j

-- where a rule is broken
pub broken-is : (m : Contents) (at : ℕ) (v : Rule) (before : Option State) (i : Instr) → at < length m.code
    → OnTheWay m at before → fetched m.code at ≡ Ok i → judged_at m at before i ≡ Err v → verdict m ≡ refused v at
broken-is m at v before i low w sp j = judged-is m at before i (Err v) low w sp j

-- where a start lies within the instruction
pub hidden-is : (m : Contents) (at o : ℕ) (before after : Option State) (i : Instr) → at < length m.code
    → OnTheWay m at before → fetched m.code at ≡ Ok i → judged_at m at before i ≡ Ok after
    → start_among m (at + 1) (i.len - 1) ≡ Some o → verdict m ≡ refused rules.InstructionStart o
hidden-is m at o before after i low w sp j l =
    judged-is m at before i (Ok after) low w sp j
    ∙ ap (past_starts (λ to after. judge (further m at before low w).fuel m to after) (at + i.len) after) l

-- where the pass goes on
pub goes-on : (m : Contents) (at : ℕ) (before after : Option State) (i : Instr) → 1 ≤ i.len → at < length m.code
    → OnTheWay m at before → fetched m.code at ≡ Ok i → judged_at m at before i ≡ Ok after
    → start_among m (at + 1) (i.len - 1) ≡ None → OnTheWay m (at + i.len) after
goes-on m at before after i some low w sp j l =
    let f = further m at before low w in
    let enough = f.enough in
    record {
      fuel = f.fuel;
      enough = omega arith;
      same = sym (judged-is m at before i (Ok after) low w sp j ∙ ap
          (past_starts (λ to after. judge f.fuel m to after) (at + i.len) after) l);
    }

-- after the code
pub ended-is : (m : Contents) (at : ℕ) (before : Option State) → length m.code ≤ at → OnTheWay m at before
    → verdict m ≡ at_the_end at before
ended-is m at before high w = sym w.same ∙ judge_end w.fuel m at before high

-- ---- starts within an instruction

start-none : (m : Contents) (at more : ℕ) → ((o : ℕ) → at ≤ o → o < at + more → is_start m o ≡ false)
    → start_among m at more ≡ None
start-none m at zero h = refl
start-none m at (suc more) h =
    ap (λ b. cond b (Some at) (start_among m (at + 1) more)) (h at (omega arith) (omega arith))
    ∙ start-none m (at + 1) more (λ o l b. h o (omega arith) (omega arith))

start-some : (m : Contents) (at more o : ℕ) → at ≤ o → o < at + more → is_start m o ≡ true
    → ((q : ℕ) → at ≤ q → q < o → is_start m q ≡ false) → start_among m at more ≡ Some o
start-some m at zero o l b here h = absurd (omega arith)
start-some m at (suc more) o l b here h = elim (cases_eq o at) [
  | inl e ↦ ap (λ x. cond x (Some at) (start_among m (at + 1) more)) (sym (ap (is_start m) e) ∙ here)
      ∙ ap (λ (n : ℕ). Some n) (sym e)
  | inr d ↦
      ap (λ x. cond x (Some at) (start_among m (at + 1) more)) (h at (omega arith) (omega arith))
      ∙ start-some m (at + 1) more o (omega arith) (omega arith) here (λ q low high. h q (omega arith) high)
]

-- none of the offsets from one up to another is a start
abbrev pub NoneFrom : Contents → ℕ → ℕ → Type 0
NoneFrom m from end = (o : ℕ) → from ≤ o → o < end → is_start m o ≡ false

pub none-within : (m : Contents) (from end : ℕ) → from ≤ end → NoneFrom m from end
    → start_among m from (end - from) ≡ None
none-within m from end ordered h = start-none m from (end - from) (λ o low high. h o low (omega arith))

pub some-within : (m : Contents) (from end o : ℕ) → from ≤ o → o < end → NoneFrom m from o → is_start m o ≡ true
    → start_among m from (end - from) ≡ Some o
some-within m from end o low high h here = start-some m from (end - from) o low (omega arith) here h

-- ---- what the pass reports

-- a stop that is the verdict's
pub told : (m : Contents) (stop : Stop) (v : Rule) (o : ℕ) → stop ≡ stops.Broken (record { rule = v; offset = o })
    → verdict m ≡ refused v o → StopsBy m stop
told m stop v o e h = subst (StopsBy m) (sym e) h

pub fallen-off : (m : Contents) (at : ℕ) (falls : Bool) (s : State) → length m.code ≤ at
    → OnTheWay m at (falling_state falls s) → falls ≡ true → verdict m ≡ refused rules.Flow at
fallen-off m at falls s high w e =
    ended-is m at (falling_state falls s) high w ∙ ap (λ (b : Bool). at_the_end at (falling_state b s)) e

pub all-judged : (m : Contents) (at : ℕ) (falls : Bool) (s : State) → length m.code ≤ at
    → OnTheWay m at (falling_state falls s) → falls ≡ false → verdict m ≡ Ok tt
all-judged m at falls s high w e =
    ended-is m at (falling_state falls s) high w ∙ ap (λ (b : Bool). at_the_end at (falling_state b s)) e
