-- Memories that agree on what may be read still do after any step.
use Rattle.std.proofs.Common.{◌≡◌, ℕ, zero, suc, ◌+◌, ◌<◌, Bool, true, inl, inr, ℤ, List, []}
use Rattle.std.proofs.Common.{◌∷◌, length, Option, None, refl, sym, ◌∙◌, arith}
use Rattle.std.proofs.lemmas.Bool.{cases_lt, cases_eq, and_parts}
use Rattle.std.proofs.lemmas.List.{get_or_past}
use Rattle.std.specs.Option.{option_map}
use Rattle.machine_state.specs.declared.fault.FaultKind.{FaultKind}
use Rattle.machine_state.specs.declared.process.Registers.{Registers}
use Rattle.machine_state.specs.declared.process.Exchange.{Exchange}
use Rattle.machine_state.specs.Memory.{Memory, place_of, byte_at, with_byte, word_at, with_word, byte_worth}
use Rattle.machine_state.specs.Holding.{Holding, may_read, may_read_word}
use Rattle.machine_state.specs.Site.{Site, Outcome, goes, jumps, lands, stops, fails, receives, sends, starts, joins}
use Rattle.machine_state.specs.Site.{begins, enables_channel, enables_skip, waits, disables_channel, disables_skip}
use Rattle.machine_state.specs.Site.{ends_alternation}
use Rattle.machine_state.specs.LocalStep.{copied}
use Rattle.machine_state.specs.Exchanges.{bytes_at}
use Rattle.machine_state.specs.Joins.{without_words}
use Rattle.machine_state.specs.Seeing.{Agree}
use Rattle.machine_state.proofs.Reading.{length-with_byte, byte_at-with_byte, byte_at-with_byte_other, word_at_same}
use Rattle.machine_state.proofs.EveryInstruction.{Wants, here}
use Rattle.machine_state.proofs.Writing.{all_at}

-- the bytes from a place on are among these
abbrev pub Covers : (ℕ → Bool) → ℕ → ℕ → Type 0
Covers seen place n = (i : ℕ) → i < n → seen (place + i) ≡ true

abbrev Same : Memory → Memory → ℕ → ℕ → Type 0
Same m n place count = (i : ℕ) → i < count → byte_at n (place + i) ≡ byte_at m (place + i)

-- the same of the bytes after the first
behind : (m n : Memory) (place count : ℕ) → Same m n place (suc count) → Same m n (place + 1) count
behind m n place count same i inside =
    let e : place + 1 + i ≡ place + (i + 1) = omega arith in
    rw e (same (i + 1) (omega arith))

first_same : (m n : Memory) (place count : ℕ) → Same m n place (suc count) → byte_at n place ≡ byte_at m place
first_same m n place count same =
    let e : place + 0 ≡ place = omega arith in
    rw e at (same 0 (omega arith))

module _ (seen : ℕ → Bool) where
  pub byte_agrees : (m n : Memory) (place : ℕ) (v : Option ℕ) → Agree seen m n
      → Agree seen (with_byte m place v) (with_byte n place v)
  byte_agrees m n place v a = record {
    size = length-with_byte n place v ∙ (a.size ∙ sym (length-with_byte m place v));
    same = same;
  }
    where
      same : (q : ℕ) → seen q ≡ true → byte_at (with_byte n place v) q ≡ byte_at (with_byte m place v) q
      same q s = elim (cases_eq q place) [
        | inl here ↦ elim (cases_lt place (length m)) [
          | inl inside ↦ rw here (byte_at-with_byte n place v (omega (arith, a.size))
              ∙ sym (byte_at-with_byte m place v inside))
          | inr past ↦
              get_or_past (with_byte n place v) q None (omega (arith, length-with_byte n place v, a.size))
              ∙ sym (get_or_past (with_byte m place v) q None (omega (arith, length-with_byte m place v)))
        ]
        | inr other ↦ byte_at-with_byte_other n place q v other ∙ (a.same q s
            ∙ sym (byte_at-with_byte_other m place q v other))
      ]

  pub word_agrees : (m n : Memory) (place : ℕ) (v : Option ℤ) → Agree seen m n
      → Agree seen (with_word m place v) (with_word n place v)
  unfolding with_word
  word_agrees m n place v a =
      byte_agrees _ _ (place + 3) _ (byte_agrees _ _ (place + 2) _ (byte_agrees _ _ (place + 1) _
      (byte_agrees m n place (option_map (byte_worth 1) v) a)))

  pub words_agree : (m n : Memory) (addresses : List ℕ) → Agree seen m n
      → Agree seen (without_words addresses m) (without_words addresses n)
  words_agree m n [] a = a
  words_agree m n (address ∷ addresses) a =
      words_agree (with_word m (place_of address) None) (with_word n (place_of address) None) addresses
      (word_agrees m n (place_of address) None a)

  -- bytes that agree are copied
  copies : (from there : Memory) (source to count : ℕ) (m n : Memory) → Same from there source count → Agree seen m n
      → Agree seen (copied from source to count m) (copied there source to count n)
  unfolding copied
  copies from there source to zero m n same a = a
  copies from there source to (suc count) m n same a =
      let e : byte_at there source ≡ byte_at from source = first_same from there source count same in
      rw e (copies from there (source + 1) (to + 1) count (with_byte m to (byte_at from source))
      (with_byte n to (byte_at from source)) (behind from there source count same)
      (byte_agrees m n to (byte_at from source) a))

  pub covered : (m n : Memory) (place count : ℕ) → Agree seen m n → Covers seen place count → Same m n place count
  covered m n place count a covers i inside = a.same (place + i) (covers i inside)

  pub copy_agrees : (m n : Memory) (source to count : ℕ) → Agree seen m n → Covers seen source count
      → Agree seen (copied m source to count m) (copied n source to count n)
  copy_agrees m n source to count a covers = copies m n source to count m n (covered m n source count a covers) a

  -- what goes out is the same
  same_bytes : (m n : Memory) (place count : ℕ) → Same m n place count
      → bytes_at n place count ≡ bytes_at m place count
  same_bytes m n place zero same = refl
  same_bytes m n place (suc count) same =
      let a : byte_at n place ≡ byte_at m place = first_same m n place count same in
      let b : bytes_at n (place + 1) count ≡ bytes_at m (place + 1) count =
      same_bytes m n (place + 1) count (behind m n place count same) in
      rw (a, b)

  pub bytes_agree : (m n : Memory) (place count : ℕ) → Agree seen m n → Covers seen place count
      → bytes_at n place count ≡ bytes_at m place count
  bytes_agree m n place count a covers = same_bytes m n place count (covered m n place count a covers)

  pub word_same : (h : Holding) (m n : Memory) (place : ℕ) → ((q : ℕ) → may_read h q ≡ true → seen q ≡ true)
      → Agree seen m n → may_read_word h place ≡ true → word_at m place ≡ word_at n place
  unfolding may_read_word
  word_same h m n place readable a own =
      let p = and_parts _ _ own in
      let q = and_parts _ _ p.0 in
      let t = and_parts _ _ q.0 in
      let at : (x : ℕ) → may_read h x ≡ true → byte_at m x ≡ byte_at n x = λ x e. sym (a.same x (readable x e)) in
      word_at_same m n place (at _ t.0) (at _ t.1) (at _ q.1) (at _ p.1)

-- ---- the outcomes of one instruction in two memories

pub data Alike (seen : ℕ → Bool) : Outcome → Outcome → Type 0 where
  both_go : (r : Registers) (m n : Memory) → Agree seen m n → Alike seen (goes (here r m)) (goes (here r n))
  both_jump : (to : ℕ) (r : Registers) (m n : Memory) → Agree seen m n
      → Alike seen (jumps to (here r m)) (jumps to (here r n))
  both_land : (to : ℕ) (r : Registers) (m n : Memory) → Agree seen m n
      → Alike seen (lands to (here r m)) (lands to (here r n))
  both_stop : (r : Registers) (m n : Memory) → Agree seen m n → Alike seen (stops (here r m)) (stops (here r n))
  both_fail : (kind : FaultKind) → Alike seen (fails kind) (fails kind)
  both_receive : (e : Exchange) (r : Registers) (m n : Memory) → Agree seen m n
      → Alike seen (receives e (here r m)) (receives e (here r n))
  both_send : (e : Exchange) (r : Registers) (m n : Memory) → Agree seen m n → Covers seen (place_of e.address) e.length
      → Alike seen (sends e (here r m)) (sends e (here r n))
  both_start : (to workspace : ℕ) (r : Registers) (m n : Memory) → Agree seen m n
      → Alike seen (starts to workspace (here r m)) (starts to workspace (here r n))
  both_join : (block : ℕ) (r : Registers) (m n : Memory) → Agree seen m n
      → Alike seen (joins block (here r m)) (joins block (here r n))
  both_begin : (r : Registers) (m n : Memory) → Agree seen m n → Alike seen (begins (here r m)) (begins (here r n))
  both_enable : (guard : Bool) (at : ℕ) (r : Registers) (m n : Memory) → Agree seen m n
      → Alike seen (enables_channel guard at (here r m)) (enables_channel guard at (here r n))
  both_enable_a_skip : (guard : Bool) (r : Registers) (m n : Memory) → Agree seen m n
      → Alike seen (enables_skip guard (here r m)) (enables_skip guard (here r n))
  both_wait : (r : Registers) (m n : Memory) → Agree seen m n → Alike seen (waits (here r m)) (waits (here r n))
  both_disable : (guard : Bool) (at : ℕ) (distance : ℤ) (r : Registers) (m n : Memory) → Agree seen m n
      → Alike seen (disables_channel guard at distance (here r m)) (disables_channel guard at distance (here r n))
  both_disable_a_skip : (guard : Bool) (distance : ℤ) (r : Registers) (m n : Memory) → Agree seen m n
      → Alike seen (disables_skip guard distance (here r m)) (disables_skip guard distance (here r n))
  both_end : (to : ℕ) (r : Registers) (m n : Memory) → Agree seen m n
      → Alike seen (ends_alternation to (here r m)) (ends_alternation to (here r n))

pub alike : (seen : ℕ → Bool) (s : Site) (r : Registers) (m n : Memory)
    → ((q : ℕ) → may_read s.holding q ≡ true → seen q ≡ true)
    → Wants s r m n (λ r m n. Agree seen m n) (Alike seen)
alike seen s r0 m0 n0 readable = record {
  same_word = λ r m n place a own. word_same seen s.holding m n place readable a own;
  same_byte = λ r m n place a own. sym (a.same place (readable place own));
  stack = λ r m n stack a. a;
  workspace = λ r m n e a. a;
  word = λ r m n place v a own. word_agrees seen m n place v a;
  byte = λ r m n place v a own. byte_agrees seen m n place v a;
  copy = λ r m n source to count a read own. copy_agrees seen m n source to count a
      (λ i inside. readable (source + i) (all_at (may_read s.holding) source count i read inside));
  at_fault = both_fail;
  at_goes = both_go;
  at_jumps = both_jump;
  at_lands = both_land;
  at_stops = both_stop;
  at_receives = λ e asked own a. both_receive e _ _ _ a;
  at_sends = λ e asked read defined a. both_send e _ _ _ a
      (λ i inside. readable (place_of e.address + i)
      (all_at (may_read s.holding) (place_of e.address) e.length i read inside));
  at_starts = λ to workspace r m n even a. both_start to workspace r m n a;
  at_joins = both_join;
  at_begins = both_begin;
  at_enables_channel = λ guard at r m n a held. both_enable guard at r m n a;
  at_enables_skip = both_enable_a_skip;
  at_waits = both_wait;
  at_disables_channel = λ guard at distance r m n a held. both_disable guard at distance r m n a;
  at_disables_skip = both_disable_a_skip;
  at_ends_alternation = both_end;
}
