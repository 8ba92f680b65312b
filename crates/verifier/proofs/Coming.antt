-- How a process that waits for a message goes on, and how it waits further: bytes come to it, or its own have gone.
use Rattle.std.proofs.Common.{◌≡◌, ◌≢◌, ℕ, zero, suc, ◌+◌, ◌-◌, ◌≤◌, ◌<◌, ◌%◌, ◌^◌, Bool, true, false, ◌&&◌}
use Rattle.std.proofs.Common.{◌||◌, ◌⊎◌, inl, inr, length, Some, refl, sym, ap, ◌∙◌, subst, arith, eqb}
use Rattle.std.proofs.Common.{leb}
use Rattle.std.proofs.lemmas.Bool.{cases_lt, cases_eq, le-leb, cases_Bool, or_parts}
use Rattle.std.proofs.lemmas.Bool.Decides.{eqb_tells, leb_tells}
use Rattle.small_laws.proofs.Comparisons.{eqb-self}
use Rattle.module_format.specs.Contents.{Contents}
use Rattle.machine_state.specs.declared.process.Condition.{Condition}
use Rattle.machine_state.specs.declared.process.Condition.TheVariants.{Ready, Sending, Receiving, OnLink}
use Rattle.machine_state.specs.declared.process.Exchange.{Exchange}
use Rattle.machine_state.specs.declared.process.Task.{Task}
use Rattle.machine_state.specs.Holding.{Holding, may_write}
use Rattle.machine_state.specs.LocalStep.{copied}
use Rattle.machine_state.specs.Memory.{Memory, byte_at, with_byte, place_of}
use Rattle.machine_state.specs.World.{input_word}
use Rattle.machine_state.proofs.Copying.{copied-beside}
use Rattle.machine_state.proofs.Reading.{length-with_byte, byte_at-with_byte, byte_at-with_byte_other}
use Rattle.rulings.proofs.BlocksMove.{copied-inside, length-copied}
use Rattle.rulings.proofs.Reaching.{inside_memory}
use Rattle.rulings.specs.Buffers.{message_place, is_filled, IsByte}
use Rattle.certified_worlds.specs.Lives.{awaits, IsExchanging, Lives}
use Rattle.certified_worlds.specs.Point.{Began}
use Rattle.verifier.proofs.Tables.{Allows, lives_on, lives_whatever}

-- ---- what is awaited

-- a process that waits on an input link awaits the rest of its buffer
pub input_awaits : (e : Exchange) (done k place : ℕ) → e.channel ≡ input_word k
    → awaits (OnLink e done) place ≡ is_filled e done (e.length - done) place
input_awaits e done k place on =
    ap (λ (b : Bool). b && is_filled e done (e.length - done) place)
    (le-leb (input_word 0) e.channel (omega (arith, on)))

-- and one that waits on an output link awaits nothing
pub output_awaits : (e : Exchange) (done place : ℕ) → e.channel < input_word 0 → awaits (OnLink e done) place ≡ false
output_awaits e done place low =
    ap (λ (b : Bool). b && is_filled e done (e.length - done) place) (not_above (input_word 0) e.channel low)
  where
    not_above : (a b : ℕ) → b < a → leb a b ≡ false
    not_above a b h = elim (leb_tells a b) [ inl t ↦ absurd (omega (arith, t.1)) | inr t ↦ t.0 ]

-- a message of at least a byte
pub more_filled : (e : Exchange) (done place : ℕ) → done < e.length → is_filled e done (e.length - done) place
    ≡ (eqb place (message_place e done) || is_filled e (done + 1) (e.length - (done + 1)) place)
more_filled e done place less =
    let rest : e.length - done ≡ suc (e.length - (done + 1)) = omega arith in
    ap (λ n. is_filled e done n place) rest

-- no process waits on an internal channel that is ready, or on a link
pub ready_is_quiet : (e : Exchange) → IsExchanging Ready e → ⊥
ready_is_quiet e (inl no') = cc
ready_is_quiet e (inr no') = cc

pub link_is_quiet : (x : Exchange) (done : ℕ) (e : Exchange) → IsExchanging (OnLink x done) e → ⊥
link_is_quiet x done e (inl no') = cc
link_is_quiet x done e (inr no') = cc

-- ---- what comes

-- Of what a process awaits bytes come, and that is allowed.
pub fills_allowed : {m : Contents} {h : Holding} {began : Began} {memory : Memory} {t : Task} {due : ℕ}
    (l : Lives m h began memory t due) (new : Memory) → length new ≡ length memory
    → ((place : ℕ) → awaits t.condition place ≡ false → byte_at new place ≡ byte_at memory place)
    → ((place : ℕ) → awaits t.condition place ≡ true → (byte_at new place ≡ byte_at memory place)
    ⊎ IsByte (byte_at new place)) → Allows l memory new
fills_allowed {h = h} {memory = memory} {t = t} l new size others come = record {
  own = record {
    size = size;
    others = λ place free. elim (cases_Bool (awaits t.condition place)) [
      | inl awaited ↦ let no' : true ≡ false = sym (l.room place awaited).0 ∙ free in absurd (cc)
      | inr none ↦ others place none
    ];
  };
  keeps = l.fills memory new (record {
    size = size;
    others = λ place may none. others place none;
    come = λ place may awaited. come place awaited;
  });
}

-- ---- one byte comes

module _ {m : Contents} {h : Holding} {began : Began} {memory : Memory} {t : Task} {due : ℕ}
    (l : Lives m h began memory t due) (goal byte : ℕ) (small : byte < 256)
    (still : ℕ → Bool) (was : (place : ℕ) → awaits t.condition place ≡ (eqb place goal || still place)) where
  abbrev with_it : Memory
  with_it = with_byte memory goal (Some byte)

  awaited_here : awaits t.condition goal ≡ true
  awaited_here = was goal ∙ ap (λ (b : Bool). b || still goal) (eqb-self goal)

  differs : (place : ℕ) → eqb place goal ≡ false → place ≢ goal
  differs place e same =
      elim (eqb_tells place goal) [ inl t ↦ let no' : true ≡ false = sym t.0 ∙ e in cc | inr t ↦ t.1 same ]

  pub byte_changes : Allows l memory with_it
  byte_changes = fills_allowed l with_it (length-with_byte memory goal (Some byte))
      (λ place free. byte_at-with_byte_other memory goal place (Some byte)
      (differs place (or_parts (eqb place goal) (still place) (sym (was place) ∙ free)).0))
      (λ place awaited. elim (eqb_tells place goal) [
        | inl t ↦ inr (subst (λ q. IsByte (byte_at with_it q)) (sym t.1)
            (byte, byte_at-with_byte memory goal (Some byte) (l.room goal awaited_here).1, small))
        | inr t ↦ inl (byte_at-with_byte_other memory goal place (Some byte) t.1)
      ])

  -- it lives on in a condition in which it awaits the others
  pub byte_lives : (c : Condition) → ((e : Exchange) → IsExchanging c e → ⊥)
      → ((place : ℕ) → awaits c place ≡ still place) → Lives m h began with_it (record t { condition = c }) due
  byte_lives c quiet is_still = lives_on with_it c quiet byte_changes.own.size
      (λ place e free. byte_at-with_byte_other memory goal place (Some byte)
      (differs place (or_parts (eqb place goal) (still place) (sym (was place) ∙ free)).0))
      (λ place e. was place ∙ or_true_right (eqb place goal) (still place) (sym (is_still place) ∙ e))
      (λ place e. elim (eqb_tells place goal) [
        | inl t ↦ inr (subst (λ q. IsByte (byte_at with_it q)) (sym t.1) comes_in)
        | inr t ↦ inl (byte_at-with_byte_other memory goal place (Some byte) t.1)
      ])
      (λ place e over. subst (λ q. IsByte (byte_at with_it q))
      (sym (same_place place (still place) (sym (is_still place) ∙ over) (sym (was place) ∙ e))) comes_in) l
    where
      comes_in : IsByte (byte_at with_it goal)
      comes_in = (byte, byte_at-with_byte memory goal (Some byte) (l.room goal awaited_here).1, small)

      or_true_right : (a b : Bool) → b ≡ true → (a || b) ≡ true
      or_true_right true b e = refl
      or_true_right false b e = e

      same_place : (place : ℕ) (b : Bool) → b ≡ false → (eqb place goal || b) ≡ true → place ≡ goal
      same_place place true none e = absurd (cc)
      same_place place false none e = elim (eqb_tells place goal)
          [ inl t ↦ t.1 | inr t ↦ let no' : false ≡ true = sym t.0 ∙ or_none (eqb place goal) e in absurd (cc) ]
        where
          or_none : (a : Bool) → (a || false) ≡ true → a ≡ true
          or_none true e = refl
          or_none false e = e

-- ---- a message that comes on a link

module _ {m : Contents} {h : Holding} {began : Began} {memory : Memory} (t : Task) {due : ℕ} {e : Exchange} (k : ℕ)
    (on : e.channel ≡ input_word k) (l : Lives m h began memory (record t { condition = Receiving e }) due) where
  -- it waits for the first byte
  pub none_lives : Lives m h began memory (record t { condition = OnLink e 0 }) due
  none_lives = lives_on memory (OnLink e 0) (link_is_quiet e 0) refl (λ place may none. refl)
      (λ place still. sym (alike place) ∙ still)
      (λ place still. inl refl)
      (λ place awaited over. let no' : true ≡ false = sym awaited ∙ sym (alike place) ∙ over in absurd (cc)) l
    where
      alike : (place : ℕ) → awaits (OnLink e 0) place ≡ is_filled e 0 e.length place
      alike place =
          let whole : e.length - 0 ≡ e.length = omega arith in
          input_awaits e 0 k place on ∙ ap (λ n. is_filled e 0 n place) whole

  first_awaited : 1 ≤ e.length → (place : ℕ) → is_filled e 0 e.length place
      ≡ (eqb place (message_place e 0) || is_filled e 1 (e.length - 1) place)
  first_awaited some place =
      let whole : e.length ≡ e.length - 0 = omega arith in
      ap (λ n. is_filled e 0 n place) whole ∙ more_filled e 0 place (omega (arith, some))

  -- a byte was kept there, and it is the last
  pub last_lives : (byte : ℕ) → byte < 256 → e.length ≡ 1
      → Lives m h began (with_byte memory (message_place e 0) (Some byte)) (record t { condition = Ready }) due
  last_lives byte small one = byte_lives l (message_place e 0) byte small (λ place. false)
      (λ place. first_awaited (omega (arith, one)) place
      ∙ ap (λ n. eqb place (message_place e 0) || is_filled e 1 n place)
      (let none : e.length - 1 ≡ 0 = omega (arith, one) in none))
      Ready ready_is_quiet (λ place. refl)

  pub last_changes : (byte : ℕ) → byte < 256 → 1 ≤ e.length
      → Allows l memory (with_byte memory (message_place e 0) (Some byte))
  last_changes byte small some = byte_changes l (message_place e 0) byte small
      (λ place. is_filled e 1 (e.length - 1) place) (first_awaited some)

  -- or it waits for the second
  pub second_lives : (byte : ℕ) → byte < 256 → 1 ≤ e.length
      → Lives m h began (with_byte memory (message_place e 0) (Some byte)) (record t { condition = OnLink e 1 }) due
  second_lives byte small some = byte_lives l (message_place e 0) byte small
      (λ place. is_filled e 1 (e.length - 1) place) (first_awaited some) (OnLink e 1) (link_is_quiet e 1)
      (λ place. input_awaits e 1 k place on)

-- ---- a message that has gone

pub sent_lives : {m : Contents} {h : Holding} {began : Began} {memory : Memory} (t : Task) {due : ℕ} {e : Exchange}
    → Lives m h began memory (record t { condition = Sending e }) due
    → Lives m h began memory (record t { condition = Ready }) due
sent_lives t l = lives_whatever Ready ready_is_quiet (λ place. refl) (λ place. refl) l

pub out_lives : {m : Contents} {h : Holding} {began : Began} {memory : Memory} (t : Task) {due : ℕ} {e : Exchange}
    → e.channel < input_word 0 → Lives m h began memory (record t { condition = Sending e }) due
    → Lives m h began memory (record t { condition = OnLink e 0 }) due
out_lives t {e = e} low l = lives_whatever (OnLink e 0) (link_is_quiet e 0) (λ place. refl)
    (λ place. output_awaits e 0 place low) l

-- ---- a message that comes over an internal channel

-- the byte at a place is one of a message
filled_is : (e : Exchange) (j n place : ℕ) → is_filled e j n place ≡ true
    → (i : ℕ) × (j ≤ i) × (i < j + n) × (place ≡ message_place e i)
filled_is e j zero place is = absurd (cc)
filled_is e j (suc n) place is = elim (eqb_tells place (message_place e j)) [
  | inl t ↦ (j, omega arith, omega arith, t.1)
  | inr t ↦
      let rest = filled_is e (j + 1) n place
      (sym (ap (λ (b : Bool). b || is_filled e (j + 1) n place) t.0) ∙ is) in
      let low = rest.1 in
      let high = rest.2 in
      (rest.0, omega (arith, low), omega (arith, high), rest.3)
]

pub filled_at : (e : Exchange) (j n i : ℕ) → j ≤ i → i < j + n → is_filled e j n (message_place e i) ≡ true
filled_at e j zero i low high = absurd (omega (arith, low, high))
filled_at e j (suc n) i low high = elim (cases_eq i j) [
  | inl here ↦
      subst (λ i. is_filled e j (suc n) (message_place e i) ≡ true) (sym here)
      (ap (λ (b : Bool). b || is_filled e (j + 1) n (message_place e j)) (same (message_place e j)))
  | inr more ↦ or_true (eqb (message_place e i) (message_place e j)) _
      (filled_at e (j + 1) n i (above j i low more) (omega (arith, high)))
]
  where
    same : (n : ℕ) → eqb n n ≡ true
    same n = elim (eqb_tells n n) [ inl t ↦ t.0 | inr t ↦ absurd (t.1 refl) ]

    above : (j i : ℕ) → j ≤ i → (i ≡ j → ⊥) → j + 1 ≤ i
    above j i low other = elim (cases_lt j i)
        [ inl less ↦ omega (arith, less) | inr equal ↦ absurd (other (omega (arith, low, equal))) ]

    or_true : (a b : Bool) → b ≡ true → (a || b) ≡ true
    or_true true b e = refl
    or_true false b e = e

-- the bytes of a message that lie in a small memory follow each other
wraps : (e : Exchange) (j : ℕ) → message_place e j ≡ (place_of e.address + j) % 2 ^ 32
unfolding place_of
wraps e j = omega arith

straight : (e : Exchange) (size n : ℕ) → size ≤ 1048576 → ((j : ℕ) → j < n → message_place e j < size)
    → (j : ℕ) → j < n → message_place e j ≡ place_of e.address + j
unfolding place_of
straight e size n small each zero less = wraps e 0 ∙ (omega arith)
straight e size n small each (suc j) less =
    let before = straight e size n small each j (omega (arith, less)) in
    let low = each j (omega (arith, less)) in
    wraps e (suc j) ∙ (omega (arith, before, low, small))

-- the bytes that one process sends, and those of the buffer in which another one receives
module _ {m : Contents} {h : Holding} {began : Began} {memory : Memory} (t : Task) {due : ℕ} (sent e : Exchange)
    (same : sent.length ≡ e.length) (small : length memory ≤ 1048576)
    (bytes : (j : ℕ) → j < sent.length → IsByte (byte_at memory (message_place sent j)))
    (waits : t.condition ≡ Receiving e) (l : Lives m h began memory t due) where
  abbrev after : Memory
  after = copied memory (place_of sent.address) (place_of e.address) sent.length memory

  size : length after ≡ length memory
  size = length-copied memory (place_of sent.address) (place_of e.address) sent.length memory

  awaits_is : (place : ℕ) → awaits t.condition place ≡ is_filled e 0 e.length place
  awaits_is place = ap (λ (c : Condition). awaits c place) waits

  room : (j : ℕ) → j < e.length → (may_write h (message_place e j) ≡ true) × (message_place e j < length memory)
  room j less = l.room (message_place e j)
      (awaits_is (message_place e j) ∙ filled_at e 0 e.length j (omega arith) (omega (arith, less)))

  to_is : (j : ℕ) → j < e.length → message_place e j ≡ place_of e.address + j
  to_is = straight e (length memory) e.length small (λ j less. (room j less).1)

  from_is : (j : ℕ) → j < sent.length → message_place sent j ≡ place_of sent.address + j
  from_is = straight sent (length memory) sent.length small (λ j less.
      let b = bytes j less in inside_memory memory (message_place sent j) b.0 b.1)

  -- the whole buffer lies in memory
  ends_inside : place_of e.address + sent.length ≤ length memory ⊎ (sent.length ≡ 0)
  ends_inside = on sent.length refl
    where
      on : (n : ℕ) → sent.length ≡ n → place_of e.address + sent.length ≤ length memory ⊎ (sent.length ≡ 0)
      on zero none = inr none
      on (suc n) some =
          let last = room n (omega (arith, some, same)) in
          let at = to_is n (omega (arith, some, same)) in
          let low = last.1 in
          inl (omega (arith, at, low, some))

  -- what has come are bytes
  came : (j : ℕ) → j < e.length → IsByte (byte_at after (message_place e j))
  came j less = elim ends_inside [
    | inl inside ↦
        let byte = bytes j (omega (arith, less, same)) in
        let is : byte_at after (message_place e j) ≡ byte_at memory (message_place sent j) =
        ap (byte_at after) (to_is j less)
        ∙ (copied-inside memory (place_of sent.address) (place_of e.address) sent.length memory j
        (omega (arith, less, same)) inside
        ∙ ap (byte_at memory) (sym (from_is j (omega (arith, less, same))))) in
        subst IsByte (sym is) byte
    | inr none ↦ absurd (omega (arith, none, less, same))
  ]

  -- beside the buffer nothing has changed
  beside : (place : ℕ) → is_filled e 0 e.length place ≡ false → byte_at after place ≡ byte_at memory place
  beside place none = elim (cases_lt place (place_of e.address)) [
    | inl below ↦ copied-beside memory (place_of sent.address) (place_of e.address) sent.length memory place (inl below)
    | inr above ↦ elim (cases_lt place (place_of e.address + sent.length)) [
      | inl within ↦
          let less : place - place_of e.address < e.length = omega (arith, above, within, same) in
          let at = to_is (place - place_of e.address) less in
          let here : message_place e (place - place_of e.address) ≡ place = omega (arith, at, above) in
          let filled = subst (λ place. is_filled e 0 e.length place ≡ true) here
          (filled_at e 0 e.length (place - place_of e.address) (omega arith) (omega (arith, less))) in
          let no' : true ≡ false = sym filled ∙ none in
          absurd (cc)
      | inr over ↦
          copied-beside memory (place_of sent.address) (place_of e.address) sent.length memory place (inr over)
    ]
  ]

  -- a place of the buffer
  filled_byte : (place : ℕ) → is_filled e 0 e.length place ≡ true → IsByte (byte_at after place)
  filled_byte place awaited =
      let i = filled_is e 0 e.length place awaited in
      let less : i.0 < e.length = let high = i.2 in omega (arith, high) in
      subst (λ place. IsByte (byte_at after place)) (sym i.3) (came i.0 less)

  pub filled_changes : Allows l memory after
  filled_changes = fills_allowed l after size (λ place none. beside place (sym (awaits_is place) ∙ none))
      (λ place awaited. inr (filled_byte place (sym (awaits_is place) ∙ awaited)))

  pub filled_lives : Lives m h began after (record t { condition = Ready }) due
  filled_lives = lives_on after Ready ready_is_quiet size
      (λ place may none. beside place (sym (awaits_is place) ∙ none))
      (λ place no'. absurd (cc)) (λ place no'. absurd (cc))
      (λ place awaited over. filled_byte place (sym (awaits_is place) ∙ awaited)) l
