-- What changes where the innermost block has an entry in its list leaves what the blocks know.
use Rattle.std.proofs.Common.{◌≡◌, ℕ, suc, ◌+◌, ◌≤◌, Bool, true, false, cond, List, [], ◌∷◌, ◌++◌, length}
use Rattle.std.proofs.Common.{map, reverse, take, Option, Some, None, refl, sym, ap, subst, arith, ◌∙◌, nat_eq}
use Rattle.std.proofs.lemmas.Bool.{eqb-true, eq-eqb}
use Rattle.scalar_ranges.specs.Entries.{Meaning}
use Rattle.scalar_ranges.specs.Environments.{item_at}
use Rattle.scalar_ranges.specs.Moves.{is_one_of, hull_meaning}
use Rattle.scalar_ranges.specs.Changes.{Slot, Change, Branching, Tracked, modify, entry_in, start_in, end_in, restored}
use Rattle.scalar_ranges.specs.Changes.{undone, before, ends_seen, blocks_in, numbers_of, AreListed}
use Rattle.scalar_ranges.specs.Changes.{AreUpTo, without, is_marked, is_recent, AreMarked, IsSettled, AreSettled}
use Rattle.scalar_ranges.specs.Changes.{AreTracked, KeepsMarks, marked, listing, note_if, note, with_new, with_end, each}
use Rattle.scalar_ranges.proofs.Rows.{one_longer}
use Rattle.scalar_ranges.proofs.Widening.{one_more}
use Rattle.scalar_ranges.proofs.Hulls.{meaning_itself}
use Rattle.scalar_ranges.proofs.Counting.{without_same, fewer}
use Rattle.scalar_ranges.proofs.Numbered.{modify_long, take_modify, map_unmodified, unmodified}
use Rattle.scalar_ranges.proofs.Numbered.{modify_over, modify_swap, items_modified}

-- ---- what is taken back

pub undone_more : (cs : List Change) (c : Change) (ss : List Slot)
    → undone (cs ++ c ∷ []) ss ≡ undone cs (modify (restored c.before) c.number ss)
undone_more [] c ss = refl
undone_more (k ∷ cs) c ss = ap (modify (restored k.before) k.number) (undone_more cs c ss)

restored_alike : (b : Slot) (f : Slot → Slot) → ((s : Slot) → (f s).name ≡ s.name) → (s : Slot)
    → restored b (f s) ≡ restored b s
restored_alike b f names s = ap (λ n. restored b (record s { name = n })) (names s)

over_by : (t : Bool) (cs : List Change) (c : Change) (b : Slot) (f : Slot → Slot) (n : ℕ) (ss : List Slot)
    → nat_eq n c.number ≡ t
    → ((k : Slot) → modify (restored k) n (undone cs (modify f n ss)) ≡ modify (restored k) n (undone cs ss))
    → modify (restored b) n (undone (c ∷ cs) (modify f n ss)) ≡ modify (restored b) n (undone (c ∷ cs) ss)
over_by true cs c b f n ss test others =
    let same = eqb-true n c.number test in
    (λ i. modify (restored b) n (modify (restored c.before) (sym same i) (undone cs (modify f n ss))))
    ∙ modify_over (restored c.before) (restored b) n (undone cs (modify f n ss)) (λ s. refl) ∙ others b
    ∙ sym (modify_over (restored c.before) (restored b) n (undone cs ss) (λ s. refl))
    ∙ (λ i. modify (restored b) n (modify (restored c.before) (same i) (undone cs ss)))
over_by false cs c b f n ss test others =
    modify_swap (restored b) (restored c.before) n c.number (undone cs (modify f n ss)) test
    ∙ ap (modify (restored c.before) c.number) (others b)
    ∙ sym (modify_swap (restored b) (restored c.before) n c.number (undone cs ss) test)

undone_over : (cs : List Change) (b : Slot) (f : Slot → Slot) (n : ℕ) (ss : List Slot)
    → ((s : Slot) → (f s).name ≡ s.name)
    → modify (restored b) n (undone cs (modify f n ss)) ≡ modify (restored b) n (undone cs ss)
undone_over [] b f n ss names = modify_over f (restored b) n ss (restored_alike b f names)
undone_over (c ∷ cs) b f n ss names =
    over_by (nat_eq n c.number) cs c b f n ss refl (λ k. undone_over cs k f n ss names)

listed_by : (t : Bool) (c : Change) (cs : List Change) (f : Slot → Slot) (n : ℕ) (ss : List Slot)
    → nat_eq c.number n ≡ t → cond t true (is_one_of (numbers_of cs) n) ≡ true → ((s : Slot) → (f s).name ≡ s.name)
    → (is_one_of (numbers_of cs) n ≡ true → undone cs (modify f n ss) ≡ undone cs ss)
    → undone (c ∷ cs) (modify f n ss) ≡ undone (c ∷ cs) ss
listed_by true c cs f n ss test listed names further =
    let same = eqb-true c.number n test in
    (λ i. modify (restored c.before) (same i) (undone cs (modify f n ss))) ∙ undone_over cs c.before f n ss names
    ∙ (λ i. modify (restored c.before) (sym same i) (undone cs ss))
listed_by false c cs f n ss test listed names further =
    ap (modify (restored c.before) c.number) (further listed)

-- what is in the list may change
pub undone_listed : (cs : List Change) (f : Slot → Slot) (n : ℕ) (ss : List Slot) → is_one_of (numbers_of cs) n ≡ true
    → ((s : Slot) → (f s).name ≡ s.name) → undone cs (modify f n ss) ≡ undone cs ss
undone_listed [] f n ss listed names = absurd (cc)
undone_listed (c ∷ cs) f n ss listed names =
    listed_by (nat_eq c.number n) c cs f n ss refl listed names (λ h. undone_listed cs f n ss h names)

-- ---- a slot that is in the list

-- the innermost block has the entry with this number in its list, if it began with it
abbrev pub IsListed : ℕ → List Slot → List Branching → Type 0
IsListed n ss [] = Unit {0}
IsListed n ss (b ∷ bs) =
    (s : Slot) → item_at n (take b.count ss) ≡ Some s → nat_eq s.mark (suc (length bs)) ≡ true

-- and its branch has it
abbrev pub IsNoted : ℕ → List Slot → List Branching → Type 0
IsNoted n ss [] = Unit {0}
IsNoted n ss (b ∷ bs) =
    (s : Slot) → item_at n (take b.count ss) ≡ Some s
    → (nat_eq s.mark (suc (length bs)) ≡ true) × (is_one_of b.recent n ≡ true)

undone_by : (t : Bool) (d : ℕ) (cs : List Change) (f : Slot → Slot) (n : ℕ) (ss : List Slot)
    → is_one_of (numbers_of cs) n ≡ t → ((s : Slot) → (f s).name ≡ s.name) → AreListed d (numbers_of cs) ss
    → ((s : Slot) → item_at n ss ≡ Some s → nat_eq s.mark d ≡ true) → undone cs (modify f n ss) ≡ undone cs ss
undone_by true d cs f n ss test names listed noted = undone_listed cs f n ss test names
undone_by false d cs f n ss test names listed noted =
    ap (undone cs) (unmodified f n ss (λ s is. absurd (cc (noted s is, listed n s is test))))

-- the slots when the innermost block began
pub before_same : (f : Slot → Slot) (n : ℕ) (ss : List Slot) (b : Branching) (bs : List Branching)
    → ((s : Slot) → (f s).name ≡ s.name) → IsListed n ss (b ∷ bs) → AreMarked ss b bs
    → before b (modify f n ss) ≡ before b ss
before_same f n ss b bs names listed marked =
    ap (undone b.changes) (take_modify f b.count n ss)
    ∙ undone_by (is_one_of (numbers_of b.changes) n) (suc (length bs)) b.changes f n (take b.count ss) refl names
    marked.2 listed

up_to_kept : (f : Slot → Slot) (n d : ℕ) (ss : List Slot) → ((s : Slot) → (f s).mark ≡ s.mark) → AreUpTo d ss
    → AreUpTo d (modify f n ss)
up_to_kept f n d ss marks all =
    items_modified (λ i s. s.mark ≤ d) f n ss (λ k s apart is. all k s is)
    (λ s is. subst (λ m. m ≤ d) (sym (marks s)) (all n s is))

listed_kept : (f : Slot → Slot) (n d : ℕ) (ns : List ℕ) (ss : List Slot) → ((s : Slot) → (f s).mark ≡ s.mark)
    → AreListed d ns ss → AreListed d ns (modify f n ss)
listed_kept f n d ns ss marks all =
    items_modified (λ i s. is_one_of ns i ≡ false → nat_eq s.mark d ≡ false) f n ss
    (λ k s apart is others. all k s is others)
    (λ s is others. subst (λ m. nat_eq m d ≡ false) (sym (marks s)) (all n s is others))

pub still_marked : (f : Slot → Slot) (n : ℕ) (ss : List Slot) (b : Branching) (bs : List Branching)
    → ((s : Slot) → (f s).mark ≡ s.mark) → AreMarked ss b bs → AreMarked (modify f n ss) b bs
still_marked f n ss b bs marks marked =
    let d = suc (length bs) in
    let at = take_modify f b.count n ss in
    let many = ap (without (is_marked d)) at
    ∙ without_same (is_marked d) f n (take b.count ss) (λ s is. ap (λ m. nat_eq m d) (marks s)) in
    let long = modify_long f n ss in (
      subst (λ k. b.count ≤ k) (sym long) marked.0,
      up_to_kept f n d ss marks marked.1,
      subst (AreListed d (numbers_of b.changes)) (sym at)
          (listed_kept f n d (numbers_of b.changes) (take b.count ss) marks marked.2),
      subst (λ k. k + length b.changes ≤ b.count) (sym many) marked.3,
    )

-- a change of what the branch has in its list
settled_kept : (f : Slot → Slot) (n d : ℕ) (b : Branching) (ss : List Slot)
    → ((s : Slot) → item_at n ss ≡ Some s → is_one_of b.recent n ≡ true) → AreSettled d b ss
    → AreSettled d b (modify f n ss)
settled_kept f n d b ss noted all =
    items_modified (λ i s. is_one_of b.recent i ≡ false → IsSettled d b i s) f n ss
    (λ k s apart is others. all k s is others)
    (λ s is others. absurd (cc (noted s is, others)))

recent_alike : (d : ℕ) (f : Slot → Slot) (s : Slot) → KeepsMarks f → is_recent d (f s) ≡ is_recent d s
recent_alike d f s within = λ i. cond (nat_eq (within.marks s i) d) (within.recents s i) false

pub tracked_kept : (f : Slot → Slot) (n : ℕ) (ss : List Slot) (bs : List Branching) → KeepsMarks f → IsNoted n ss bs
    → AreTracked ss bs → AreTracked (modify f n ss) bs
tracked_kept f n ss [] within noted tracked = up_to_kept f n 0 ss within.marks tracked
tracked_kept f n ss (b ∷ bs) within noted tracked =
    let d = suc (length bs) in
    let at = take_modify f b.count n ss in
    let many = ap (without (is_recent d)) at
    ∙ without_same (is_recent d) f n (take b.count ss) (λ s is. recent_alike d f s within) in (
      still_marked f n ss b bs within.marks tracked.0,
      subst (AreSettled d b) (sym at)
          (settled_kept f n d b (take b.count ss) (λ s is. (noted s is).1) tracked.1),
      subst (λ k. k + length b.recent ≤ b.count) (sym many) tracked.2,
      subst (λ k. AreTracked k bs) (sym (before_same f n ss b bs within.names (λ s is. (noted s is).0) tracked.0))
          tracked.3,
    )

-- A change of slots of one depth alone, of one after another.
pub record IsInside (d : ℕ) (f : Slot → Slot) : Type 0 where
  pub names : (s : Slot) → (f s).name ≡ s.name
  pub marks : (s : Slot) → (f s).mark ≡ s.mark
  pub others : (s : Slot) → nat_eq s.mark d ≡ false → f s ≡ s

inside_by : (t : Bool) (d : ℕ) (cs : List Change) (f : Slot → Slot) (n : ℕ) (ss : List Slot)
    → is_one_of (numbers_of cs) n ≡ t → IsInside d f → AreListed d (numbers_of cs) ss
    → undone cs (modify f n ss) ≡ undone cs ss
inside_by true d cs f n ss test inside listed = undone_listed cs f n ss test inside.names
inside_by false d cs f n ss test inside listed =
    ap (undone cs) (unmodified f n ss (λ s is. inside.others s (listed n s is test)))

inside_one : (f : Slot → Slot) (n : ℕ) (ss : List Slot) (b : Branching) (bs : List Branching)
    → IsInside (suc (length bs)) f → AreMarked ss b bs → before b (modify f n ss) ≡ before b ss
inside_one f n ss b bs inside marked =
    ap (undone b.changes) (take_modify f b.count n ss)
    ∙ inside_by (is_one_of (numbers_of b.changes) n) (suc (length bs)) b.changes f n (take b.count ss) refl inside
    marked.2

pub before_each : (f : Slot → Slot) (ns : List ℕ) (ss : List Slot) (b : Branching) (bs : List Branching)
    → IsInside (suc (length bs)) f → AreMarked ss b bs → before b (each f ns ss) ≡ before b ss
before_each f [] ss b bs inside marked = refl
before_each f (n ∷ ns) ss b bs inside marked =
    before_each f ns (modify f n ss) b bs inside (still_marked f n ss b bs inside.marks marked)
    ∙ inside_one f n ss b bs inside marked

pub marked_each : (f : Slot → Slot) (ns : List ℕ) (ss : List Slot) (b : Branching) (bs : List Branching)
    → IsInside (suc (length bs)) f → AreMarked ss b bs → AreMarked (each f ns ss) b bs
marked_each f [] ss b bs inside marked = marked
marked_each f (n ∷ ns) ss b bs inside marked =
    marked_each f ns (modify f n ss) b bs inside (still_marked f n ss b bs inside.marks marked)

-- an entry that means something else
pub new_within : (m : Meaning) → KeepsMarks (with_new m)
new_within m = record { names = λ s. refl; marks = λ s. refl; recents = λ s. refl }

new_start : (d : ℕ) (m : Meaning) (s : Slot) → nat_eq s.mark d ≡ true → start_in d (with_new m s) ≡ start_in d s
new_start d m s noted =
    (λ i. record { name = s.name; meaning = cond (noted i) s.start m })
    ∙ (λ i. record { name = s.name; meaning = cond (sym noted i) s.start s.meaning })

new_end : (d : ℕ) (m : Meaning) (s : Slot) → nat_eq s.mark d ≡ true → end_in d (with_new m s) ≡ end_in d s
new_end d m s noted =
    (λ i. record { name = s.name; meaning = cond (noted i) s.ends m })
    ∙ (λ i. record { name = s.name; meaning = cond (sym noted i) s.ends s.meaning })

pub new_blocks : (m : Meaning) (n : ℕ) (ss : List Slot) (bs : List Branching) → IsNoted n ss bs → AreTracked ss bs
    → blocks_in (modify (with_new m) n ss) bs ≡ blocks_in ss bs
new_blocks m n ss [] noted tracked = refl
new_blocks m n ss (b ∷ bs) noted tracked =
    let d = suc (length bs) in
    let at = take_modify (with_new m) b.count n ss in
    let starts = ap (map (start_in d)) at
    ∙ map_unmodified (start_in d) (with_new m) n (take b.count ss) (λ s is. new_start d m s (noted s is).0) in
    let ends = ap (map (end_in d)) at
    ∙ map_unmodified (end_in d) (with_new m) n (take b.count ss) (λ s is. new_end d m s (noted s is).0) in
    let behind = before_same (with_new m) n ss b bs (λ s. refl) (λ s is. (noted s is).0) tracked.0 in
    λ i. record { start = reverse (starts i); ends = ends_seen b.ended (reverse (ends i)) } ∷ blocks_in (behind i) bs

-- ---- a slot that comes to the lists

-- what is so after an entry came to the block's list
pub record ListsWell (n : ℕ) (ss : List Slot) (bs : List Branching) (t : Tracked) : Type 0 where
  pub entries : map entry_in t.slots ≡ map entry_in ss
  pub blocks : blocks_in t.slots t.blocks ≡ blocks_in ss bs
  pub tracked : AreTracked t.slots t.blocks
  pub listed : IsListed n t.slots t.blocks

pub either : {A : Type 0} (t : Bool) (x : A) → cond t x x ≡ x
either true x = refl
either false x = refl

marked_start : (d : ℕ) (s : Slot) → nat_eq s.mark d ≡ false → start_in d (marked d s) ≡ start_in d s
marked_start d s test =
    (λ i. record { name = s.name; meaning = either (nat_eq d d) s.meaning i })
    ∙ (λ i. record { name = s.name; meaning = cond (sym test i) s.start s.meaning })

marked_end : (d : ℕ) (s : Slot) → nat_eq s.mark d ≡ false → end_in d (marked d s) ≡ end_in d s
marked_end d s test =
    (λ i. record { name = s.name; meaning = either (nat_eq d d) s.meaning i })
    ∙ (λ i. record { name = s.name; meaning = cond (sym test i) s.ends s.meaning })

hull_or : (ended : Bool) (m : Meaning) → cond ended (hull_meaning m m) m ≡ m
hull_or true m = meaning_itself m
hull_or false m = refl

marked_settled : (d i : ℕ) (b : Branching) (s : Slot) → IsSettled d b i (marked d s)
marked_settled d i b s = (
  either (nat_eq d d) false,
  either (nat_eq d d) (marked d s),
  λ even apart. ap (λ m. cond (nat_eq d d) (with_end m (marked d s)) (marked d s)) (hull_or b.ended s.meaning)
      ∙ either (nat_eq d d) (marked d s),
)

numbers_more : (cs : List Change) (c : Change) → numbers_of (cs ++ c ∷ []) ≡ numbers_of cs ++ c.number ∷ []
numbers_more [] c = refl
numbers_more (k ∷ cs) c = ap (λ ns. k.number ∷ ns) (numbers_more cs c)

pub first_not : (t u : Bool) → cond t true u ≡ false → t ≡ false
first_not true u h = h
first_not false u h = refl

pub second_not : (t u : Bool) → cond t true u ≡ false → u ≡ false
second_not true u h = absurd (cc)
second_not false u h = h

module _ (n : ℕ) (ss : List Slot) (b : Branching) (bs : List Branching) (s : Slot)
    (tracked : AreTracked ss (b ∷ bs)) (is : item_at n (take b.count ss) ≡ Some s)
    (test : nat_eq s.mark (suc (length bs)) ≡ false) where
  abbrev depth : ℕ
  depth = suc (length bs)

  abbrev change : Change
  change = record { number = n; before = s }

  abbrev after : Branching
  after = listing n s b

  abbrev base : List Slot
  base = take b.count ss

  at : take b.count (modify (marked depth) n ss) ≡ modify (marked depth) n base
  at = take_modify (marked depth) b.count n ss

  unmarked_here : (k : Slot) → item_at n base ≡ Some k → nat_eq k.mark depth ≡ false
  unmarked_here k there =
      let same : s ≡ k = cc (is, there) in subst (λ (x : Slot). nat_eq x.mark depth ≡ false) same test

  behind : before after (modify (marked depth) n ss) ≡ before b ss
  behind =
      ap (undone after.changes) at ∙ undone_more b.changes change (modify (marked depth) n base)
      ∙ ap (undone b.changes) (modify_over (marked depth) (restored s) n base (λ k. refl)
      ∙ unmodified (restored s) n base (λ k there. let same : s ≡ k = cc (is, there) in λ i. restored (same i) k))

  blocks : blocks_in (modify (marked depth) n ss) (after ∷ bs) ≡ blocks_in ss (b ∷ bs)
  blocks =
      let starts = ap (map (start_in depth)) at
      ∙ map_unmodified (start_in depth) (marked depth) n base
      (λ k there. marked_start depth k (unmarked_here k there)) in
      let ends = ap (map (end_in depth)) at
      ∙ map_unmodified (end_in depth) (marked depth) n base
      (λ k there. marked_end depth k (unmarked_here k there)) in
      λ i. record { start = reverse (starts i); ends = ends_seen b.ended (reverse (ends i)) }
      ∷ blocks_in (behind i) bs

  one_of : (k : ℕ) → is_one_of (numbers_of after.changes) k
      ≡ cond (is_one_of (numbers_of b.changes) k) true (nat_eq n k)
  one_of k = ap (λ ns. is_one_of ns k) (numbers_more b.changes change) ∙ one_more (numbers_of b.changes) n k

  listed : AreListed depth (numbers_of after.changes) (modify (marked depth) n base)
  listed = items_modified (λ i k. is_one_of (numbers_of after.changes) i ≡ false → nat_eq k.mark depth ≡ false)
      (marked depth) n base
      (λ i k apart there others. tracked.0.2 i k there (first_not (is_one_of (numbers_of b.changes) i) (nat_eq n i)
      (sym (one_of i) ∙ others)))
      (λ k there others. absurd (cc (
        eq-eqb n n refl,
        second_not (is_one_of (numbers_of b.changes) n) (nat_eq n n) (sym (one_of n) ∙ others),
      )))

  now_marked : AreMarked (modify (marked depth) n ss) after bs
  now_marked =
      let long = modify_long (marked depth) n ss in
      let less = fewer (is_marked depth) (marked depth) n base s is test (eq-eqb depth depth refl) in
      let more = one_longer b.changes change in
      let room = tracked.0.3 in
      let many = ap (without (is_marked depth)) at in (
        subst (λ k. b.count ≤ k) (sym long) tracked.0.0,
        items_modified (λ i k. k.mark ≤ depth) (marked depth) n ss (λ i k apart there. tracked.0.1 i k there)
            (λ k there. omega arith),
        subst (AreListed depth (numbers_of after.changes)) (sym at) listed,
        subst (λ k. k + length after.changes ≤ b.count) (sym many) (omega arith),
      )

  now_settled : AreSettled depth after (modify (marked depth) n base)
  now_settled = items_modified (λ i k. is_one_of b.recent i ≡ false → IsSettled depth after i k) (marked depth) n base
      (λ i k apart there others. tracked.1 i k there others) (λ k there others. marked_settled depth n after k)

  now_tracked : AreTracked (modify (marked depth) n ss) (after ∷ bs)
  now_tracked =
      let many = ap (without (is_recent depth)) at
      ∙ without_same (is_recent depth) (marked depth) n base
      (λ k there. either (nat_eq depth depth) false
      ∙ ap (λ t. cond t k.recent false) (sym (unmarked_here k there))) in (
        now_marked,
        subst (AreSettled depth after) (sym at) now_settled,
        subst (λ k. k + length b.recent ≤ b.count) (sym many) tracked.2,
        subst (λ k. AreTracked k bs) (sym behind) tracked.3,
      )

  now_listed : IsListed n (modify (marked depth) n ss) (after ∷ bs)
  now_listed k there =
      items_modified (λ i j. i ≡ n → nat_eq j.mark depth ≡ true) (marked depth) n base
      (λ i j apart here same. absurd (cc (eq-eqb n i (sym same), apart)))
      (λ j here same. eq-eqb depth depth refl) n k (subst (λ js. item_at n js ≡ Some k) at there) refl

note_by : (t : Bool) (n : ℕ) (ss : List Slot) (b : Branching) (bs : List Branching) (s : Slot)
    → AreTracked ss (b ∷ bs) → item_at n (take b.count ss) ≡ Some s → nat_eq s.mark (suc (length bs)) ≡ t
    → ListsWell n ss (b ∷ bs) (cond t (record { slots = ss; blocks = b ∷ bs })
    (record { slots = modify (marked (suc (length bs))) n ss; blocks = listing n s b ∷ bs }))
note_by true n ss b bs s tracked is test = record {
  entries = refl;
  blocks = refl;
  tracked = tracked;
  listed = λ k there. let same : s ≡ k = cc (is, there) in
      subst (λ (x : Slot). nat_eq x.mark (suc (length bs)) ≡ true) same test;
}
note_by false n ss b bs s tracked is test = record {
  entries = map_unmodified entry_in (marked (suc (length bs))) n ss (λ k there. refl);
  blocks = blocks n ss b bs s tracked is test;
  tracked = now_tracked n ss b bs s tracked is test;
  listed = now_listed n ss b bs s tracked is test;
}

noted_if : (n : ℕ) (ss : List Slot) (b : Branching) (bs : List Branching) (o : Option Slot) → AreTracked ss (b ∷ bs)
    → item_at n (take b.count ss) ≡ o → ListsWell n ss (b ∷ bs) (note_if (suc (length bs)) n ss b bs o)
noted_if n ss b bs None tracked none = record {
  entries = refl;
  blocks = refl;
  tracked = tracked;
  listed = λ k there. absurd (cc (none, there));
}
noted_if n ss b bs (Some s) tracked is = note_by (nat_eq s.mark (suc (length bs))) n ss b bs s tracked is refl

pub lists_well : (n : ℕ) (ss : List Slot) (bs : List Branching) → AreTracked ss bs → ListsWell n ss bs (note n ss bs)
lists_well n ss [] tracked = record { entries = refl; blocks = refl; tracked = tracked; listed = tt }
lists_well n ss (b ∷ bs) tracked = noted_if n ss b bs (item_at n (take b.count ss)) tracked refl
