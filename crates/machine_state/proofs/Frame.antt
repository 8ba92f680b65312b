-- An instruction changes no byte but those that its process may write.
use Rattle.std.proofs.Common.{◌≡◌, ◌≢◌, ℕ, zero, suc, ◌+◌, ◌≤◌, ◌<◌, ℤ, true}
use Rattle.std.proofs.Common.{false}
use Rattle.std.proofs.Common.{◌⊎◌, inl, inr, Option, refl, sym, ap, ◌∙◌, arith}
use Rattle.std.proofs.lemmas.Bool.{cases_lt, and_parts}
use Rattle.machine_state.specs.Memory.{Memory, word_at, with_word, byte_at, with_byte}
use Rattle.machine_state.specs.Holding.{Holding, may_write, may_write_word}
use Rattle.machine_state.specs.Spans.{all_places}
use Rattle.machine_state.specs.LocalStep as step
use Rattle.machine_state.specs.Site.{Site}
use Rattle.machine_state.specs.Frame.{ChangesOwn, LeavesOthers, StepsChangeOwn}
use Rattle.machine_state.specs.declared.process.Registers.{Registers}
use Rattle.machine_state.proofs.EveryInstruction.{Wants, each_step}
use Rattle.machine_state.proofs.Reading.{length-with_word, byte_at-with_word_other, length-with_byte}
use Rattle.machine_state.proofs.Reading.{byte_at-with_byte_other}

abbrev FourMine : Holding → ℕ → Type 0
FourMine h place =
    (may_write h place ≡ true) × (may_write h (place + 1) ≡ true)
    × (may_write h (place + 2) ≡ true) × (may_write h (place + 3) ≡ true)

-- all four bytes of an own word are own bytes
four_mine : (h : Holding) (place : ℕ) → may_write_word h place ≡ true → FourMine h place
unfolding may_write_word
four_mine h place e =
    let p = and_parts _ _ e in
    let q = and_parts _ _ p.0 in
    let r = and_parts _ _ q.0 in
    (r.0, r.1, q.1, p.1)

-- a write to an own word changes own bytes only
pub write_is_own : (h : Holding) (memory : Memory) (word : ℕ) (v : Option ℤ) → may_write_word h word ≡ true
    → ChangesOwn h memory (with_word memory word v)
write_is_own h memory word v own = record {
  size = length-with_word memory word v;
  others = λ place e. byte_at-with_word_other memory word place v (apart place e);
}
  where
    mine : FourMine h word
    mine = four_mine h word own

    differs : (place q : ℕ) → may_write h place ≡ false → may_write h q ≡ true → place ≡ q → ⊥
    differs place q e f same = let x : true ≡ false = sym f ∙ ap (may_write h) (sym same) ∙ e in cc

    apart : (place : ℕ) → may_write h place ≡ false → (place < word) ⊎ (word + 4 ≤ place)
    apart place e =
        let p = differs place word e mine.0 in
        let q = differs place (word + 1) e mine.1 in
        let r = differs place (word + 2) e mine.2 in
        let t = differs place (word + 3) e mine.3 in
        elim (cases_lt place word) [ inl below ↦ inl below | inr above ↦ inr (omega arith) ]

pub changes_more : (h : Holding) (a b c : Memory) → ChangesOwn h a b → ChangesOwn h b c → ChangesOwn h a c
changes_more h a b c p q = record { size = q.size ∙ p.size; others = λ place e. q.others place e ∙ p.others place e }

pub changes_nothing : (h : Holding) (memory : Memory) → ChangesOwn h memory memory
changes_nothing h memory = record { size = refl; others = λ place e. refl }

-- so does a write to an own byte, and a block that goes to own bytes
pub byte_is_own : (h : Holding) (memory : Memory) (to : ℕ) (v : Option ℕ) → may_write h to ≡ true
    → ChangesOwn h memory (with_byte memory to v)
byte_is_own h memory to v own = record { size = length-with_byte memory to v; others = others }
  where
    others : (place : ℕ) → may_write h place ≡ false → byte_at (with_byte memory to v) place ≡ byte_at memory place
    others place e = byte_at-with_byte_other memory to place v differs
      where
        differs : place ≢ to
        differs same = let x : true ≡ false = sym own ∙ ap (may_write h) (sym same) ∙ e in cc

pub copy_is_own : (h : Holding) (from : Memory) (source to n : ℕ) (memory : Memory)
    → all_places (may_write h) to n ≡ true
    → ChangesOwn h memory (step.copied from source to n memory)
unfolding step.copied all_places
copy_is_own h from source to zero memory own = changes_nothing h memory
copy_is_own h from source to (suc n) memory own =
    let both = and_parts _ _ own in
    changes_more h memory (with_byte memory to (byte_at from source)) _
    (byte_is_own h memory to (byte_at from source) both.0)
    (copy_is_own h from (source + 1) (to + 1) n (with_byte memory to (byte_at from source)) both.1)

-- ---- the instructions

-- one memory, which is the old one but for own bytes
record IsChanged (h : Holding) (old m n : Memory) : Type 0 where
  same : m ≡ n
  changes : ChangesOwn h old m

leaving : (s : Site) (r0 : Registers) (old : Memory)
    → Wants s r0 old old (λ r m n. IsChanged s.holding old m n) (λ o o'. LeavesOthers s.holding old o)
leaving s r0 old = record {
  same_word = λ r m n place k own. ap (λ (m : Memory). word_at m place) k.same;
  same_byte = λ r m n place k own. ap (λ (m : Memory). byte_at m place) k.same;
  stack = λ r m n stack k. k;
  workspace = λ r m n e k. k;
  word = λ r m n place v k own. record {
    same = ap (λ (m : Memory). with_word m place v) k.same;
    changes = changes_more h old m _ k.changes (write_is_own h m place v own);
  };
  byte = λ r m n place v k own. record {
    same = ap (λ (m : Memory). with_byte m place v) k.same;
    changes = changes_more h old m _ k.changes (byte_is_own h m place v own);
  };
  copy = λ r m n source to count k read own. record {
    same = ap (λ (m : Memory). step.copied m source to count m) k.same;
    changes = changes_more h old m _ k.changes (copy_is_own h m source to count m own);
  };
  at_fault = λ kind. tt;
  at_goes = λ r m n k. k.changes;
  at_jumps = λ to r m n k. k.changes;
  at_lands = λ to r m n k. k.changes;
  at_stops = λ r m n k. k.changes;
  at_receives = λ e asked own k. k.changes;
  at_sends = λ e asked own defined k. k.changes;
  at_starts = λ to workspace r m n even k. k.changes;
  at_joins = λ block r m n k. k.changes;
  at_begins = λ r m n k. k.changes;
  at_enables_channel = λ guard at r m n k held. k.changes;
  at_enables_skip = λ guard r m n k. k.changes;
  at_waits = λ r m n k. k.changes;
  at_disables_channel = λ guard at distance r m n k held. k.changes;
  at_disables_skip = λ guard distance r m n k. k.changes;
  at_ends_alternation = λ to r m n k. k.changes;
}
  where
    h : Holding
    h = s.holding

pub steps_change_own : StepsChangeOwn
steps_change_own s f e l =
    each_step s l.registers l.memory l.memory (λ r m n. IsChanged s.holding l.memory m n)
    (λ o o'. LeavesOthers s.holding l.memory o) (leaving s l.registers l.memory)
    (record { same = refl; changes = changes_nothing s.holding l.memory }) f e
