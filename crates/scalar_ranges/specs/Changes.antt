-- How a program has the blocks of branches around a place: by lists of what changed in them.
use Rattle.std.specs.Prelude.{ℕ, zero, suc, ◌<◌, ◌≤◌, ◌+◌, ◌≡◌, Bool, true, false, List, [], ◌∷◌, ◌++◌, length, map}
use Rattle.std.specs.Prelude.{reverse, take, nat_eq, not, if◌then◌else◌, Option, Some, None, option_map}
use Rattle.scalar_ranges.specs.Entries.{Meaning, Entry}
use Rattle.scalar_ranges.specs.Environments.{item_at}
use Rattle.scalar_ranges.specs.Moves.{outermost, at_number, with_meaning, is_one_of, hull_meaning, Block, Known}
use Rattle.scalar_ranges.specs.Moves.{begun_with, begin, begin_par, next, end, next_component}

-- An entry, and what the innermost block has of it that has it in its list: `mark` is the depth of that block, 1 for
-- the outermost one and 0 for none, `recent` whether its branch has the entry in its list, `start` what the entry means
-- where the block's branches begin, and `ends` what it means at the ends so far.
pub record Slot : Type 0 where
  pub name : List ℕ
  pub meaning : Meaning
  pub mark : ℕ
  pub recent : Bool
  pub start : Meaning
  pub ends : Meaning

-- What a block has in its list: the number of an entry, and its slot before the block changed it.
pub record Change : Type 0 where
  pub number : ℕ
  pub before : Slot

-- A block: how many entries it began with, whether it has ends, and its list, the first change first. Then which
-- entries the branch before changed, and which this one did. Where the block is even, the ends of all others stay as
-- they are where a branch ends that changes nothing.
pub record Branching : Type 0 where
  pub count : ℕ
  pub ended : Bool
  pub even : Bool
  pub changes : List Change
  pub earlier : List ℕ
  pub recent : List ℕ

-- The slots with the outermost one first, and the blocks with the innermost one first.
pub record Tracked : Type 0 where
  pub slots : List Slot
  pub blocks : List Branching

-- ---- what they say

-- the item with this number is changed
abbrev pub modify : {A : Type 0} → (A → A) → ℕ → List A → List A
modify f n [] = []
modify f zero (x ∷ xs) = f x ∷ xs
modify f (suc n) (x ∷ xs) = x ∷ modify f n xs

abbrev pub entry_in : Slot → Entry
entry_in s = record { name = s.name; meaning = s.meaning }

-- what an entry is where the branches of the innermost block begin, which has this depth, and at their ends so far
abbrev pub start_in : ℕ → Slot → Entry
start_in d s = record { name = s.name; meaning = if nat_eq s.mark d then s.start else s.meaning }

abbrev pub end_in : ℕ → Slot → Entry
end_in d s = record { name = s.name; meaning = if nat_eq s.mark d then s.ends else s.meaning }

-- a slot as it was before a block changed it
abbrev pub restored : Slot → Slot → Slot
restored b s = record b { name = s.name }

-- the slots before the changes of a list, of which the last one is taken back first
abbrev pub undone : List Change → List Slot → List Slot
undone [] ss = ss
undone (c ∷ cs) ss = modify (restored c.before) c.number (undone cs ss)

-- the slots when a block began
abbrev pub before : Branching → List Slot → List Slot
before b ss = undone b.changes (take b.count ss)

-- entries with the innermost one first
abbrev pub seen : (Slot → Entry) → List Slot → List Entry
seen f ss = reverse (map f ss)

abbrev pub ends_seen : Bool → List Entry → Option (List Entry)
ends_seen false es = None
ends_seen true es = Some es

-- a block begins, and has ends if it is a PAR
abbrev pub begin_with : Bool → Known → Known
begin_with ended k = record {
  entries = k.entries;
  blocks = record { start = k.entries; ends = ends_seen ended k.entries } ∷ k.blocks;
}

abbrev pub block_in : ℕ → Branching → List Slot → Block
block_in d b ss = record {
  start = seen (start_in d) (take b.count ss);
  ends = ends_seen b.ended (seen (end_in d) (take b.count ss));
}

abbrev pub blocks_in : List Slot → List Branching → List Block
blocks_in ss [] = []
blocks_in ss (b ∷ bs) = block_in (suc (length bs)) b ss ∷ blocks_in (before b ss) bs

abbrev pub known_in : Tracked → Known
known_in t = record { entries = seen entry_in t.slots; blocks = blocks_in t.slots t.blocks }

-- ---- where a branch ends

abbrev pub with_end : Meaning → Slot → Slot
with_end m s = record s { ends = m }

-- the next branch begins, and has no entry in its list
abbrev pub with_restart : Slot → Slot
with_restart s = record s { meaning = s.start; recent = false }

-- the ends of a branch come to those before it
abbrev pub joined : ℕ → Bool → Slot → Slot
joined d ended s =
    if nat_eq s.mark d then with_end (if ended then hull_meaning s.ends s.meaning else s.meaning) s else s

-- an entry where the next branch begins
abbrev pub restarted : ℕ → Slot → Slot
restarted d s = if nat_eq s.mark d then with_restart s else s

-- ---- what belongs together

abbrev pub numbers_of : List Change → List ℕ
numbers_of cs = map (λ c. c.number) cs

-- each entry with this mark is in a list
abbrev pub AreListed : ℕ → List ℕ → List Slot → Type 0
AreListed d ns ss = (i : ℕ) (s : Slot) → item_at i ss ≡ Some s → is_one_of ns i ≡ false → nat_eq s.mark d ≡ false

abbrev pub AreUpTo : ℕ → List Slot → Type 0
AreUpTo d ss = (i : ℕ) (s : Slot) → item_at i ss ≡ Some s → s.mark ≤ d

-- how many entries there are of which something is not so
abbrev pub without : (Slot → Bool) → List Slot → ℕ
without test [] = 0
without test (s ∷ ss) = if test s then without test ss else suc (without test ss)

abbrev pub is_marked : ℕ → Slot → Bool
is_marked d s = nat_eq s.mark d

-- whether the branch has an entry in its list, of a block of this depth
abbrev pub is_recent : ℕ → Slot → Bool
is_recent d s = if nat_eq s.mark d then s.recent else false

-- A block's list has the entries that it marked, each once, and capacity for those that it did not.
abbrev pub AreMarked : List Slot → Branching → List Branching → Type 0
AreMarked ss b bs =
    (b.count ≤ length ss) × AreUpTo (suc (length bs)) ss
    × AreListed (suc (length bs)) (numbers_of b.changes) (take b.count ss)
    × (without (is_marked (suc (length bs))) (take b.count ss) + length b.changes ≤ b.count)

-- An entry that this branch did not change is as its branches begin. If the one before did not change it either, its
-- ends stay where a branch ends that does not change it.
abbrev pub IsSettled : ℕ → Branching → ℕ → Slot → Type 0
IsSettled d b i s =
    (is_recent d s ≡ false) × (restarted d s ≡ s)
    × (b.even ≡ true → is_one_of b.earlier i ≡ false → joined d b.ended s ≡ s)

abbrev pub AreSettled : ℕ → Branching → List Slot → Type 0
AreSettled d b ss =
    (i : ℕ) (s : Slot) → item_at i ss ≡ Some s → is_one_of b.recent i ≡ false → IsSettled d b i s

-- Each block has the entries that its branches changed in its lists, and capacity for the others.
abbrev pub AreTracked : List Slot → List Branching → Type 0
AreTracked ss [] = AreUpTo 0 ss
AreTracked ss (b ∷ bs) =
    AreMarked ss b bs × AreSettled (suc (length bs)) b (take b.count ss)
    × (without (is_recent (suc (length bs))) (take b.count ss) + length b.recent ≤ b.count)
    × AreTracked (before b ss) bs

-- ---- moves

-- a change of a slot that leaves its name and its marks
pub record KeepsMarks (f : Slot → Slot) : Type 0 where
  pub names : (s : Slot) → (f s).name ≡ s.name
  pub marks : (s : Slot) → (f s).mark ≡ s.mark
  pub recents : (s : Slot) → (f s).recent ≡ s.recent

abbrev pub with_new : Meaning → Slot → Slot
with_new m s = record s { meaning = m }

-- the branches from here on begin with what a change makes of it
abbrev pub with_start : (Meaning → Meaning) → Slot → Slot
with_start f s = record s { start = f s.start }

-- the ends so far are what a change makes of them
abbrev pub with_ends : (Meaning → Meaning) → Slot → Slot
with_ends f s = record s { ends = f s.ends }

abbrev pub marked : ℕ → Slot → Slot
marked d s = record s { mark = d; recent = false; start = s.meaning; ends = s.meaning }

-- an entry comes to the innermost block's list
abbrev pub listing : ℕ → Slot → Branching → Branching
listing n s b = record b { changes = b.changes ++ record { number = n; before = s } ∷ [] }

-- The innermost block has an entry in its list before it changes, if the block began with it.
abbrev pub note_if : ℕ → ℕ → List Slot → Branching → List Branching → Option Slot → Tracked
note_if d n ss b bs None = record { slots = ss; blocks = b ∷ bs }
note_if d n ss b bs (Some s) =
    if nat_eq s.mark d then record { slots = ss; blocks = b ∷ bs }
    else record { slots = modify (marked d) n ss; blocks = listing n s b ∷ bs }

abbrev pub note : ℕ → List Slot → List Branching → Tracked
note n ss [] = record { slots = ss; blocks = [] }
note n ss (b ∷ bs) = note_if (suc (length bs)) n ss b bs (item_at n (take b.count ss))

abbrev pub touched : Slot → Slot
touched s = record s { recent = true }

-- whether the innermost block has an entry in its list, but not in that of its branch
abbrev pub is_open_in : ℕ → Option Slot → Bool
is_open_in d None = false
is_open_in d (Some s) = if nat_eq s.mark d then not s.recent else false

abbrev pub is_open : ℕ → List Slot → List Branching → Bool
is_open n ss [] = false
is_open n ss (b ∷ bs) = is_open_in (suc (length bs)) (item_at n (take b.count ss))

-- an entry comes to the list of the branch
abbrev pub touching : ℕ → Branching → Branching
touching n b = record b { recent = b.recent ++ n ∷ [] }

-- The branch has an entry in its list before it changes, if the innermost block has it in its own.
abbrev pub touch_if : Bool → ℕ → List Slot → Branching → List Branching → Tracked
touch_if false n ss b bs = record { slots = ss; blocks = b ∷ bs }
touch_if true n ss b bs = record { slots = modify touched n ss; blocks = touching n b ∷ bs }

abbrev pub touch : ℕ → List Slot → List Branching → Tracked
touch n ss [] = record { slots = ss; blocks = [] }
touch n ss (b ∷ bs) = touch_if (is_open n ss (b ∷ bs)) n ss b bs

-- An entry comes to both lists.
abbrev pub noted : ℕ → List Slot → List Branching → Tracked
noted n ss bs = let listed = note n ss bs in touch n listed.slots listed.blocks

-- An entry changes so, once it is in both lists of the innermost block.
abbrev pub put_by : (Slot → Slot) → ℕ → Tracked → Tracked
put_by f n t =
    let listed = noted n t.slots t.blocks in record { slots = modify f n listed.slots; blocks = listed.blocks }

-- an entry means something else
abbrev pub put : ℕ → Meaning → Tracked → Tracked
put n m t = put_by (with_new m) n t

abbrev pub begun_block : Bool → Tracked → Branching
begun_block ended t = record {
  count = length t.slots;
  ended = ended;
  even = true;
  changes = [];
  earlier = [];
  recent = [];
}

-- A block begins, and has ends if it is a PAR.
abbrev pub begun : Bool → Tracked → Tracked
begun ended t = record { slots = t.slots; blocks = begun_block ended t ∷ t.blocks }

-- items with these numbers are changed, one after another
abbrev pub each : {A : Type 0} → (A → A) → List ℕ → List A → List A
each f [] xs = xs
each f (n ∷ ns) xs = each f ns (modify f n xs)

-- In an even block the ends change of the entries that this branch changed, and of those that the one before did.
abbrev pub joined_by : Bool → ℕ → Branching → List Slot → List Slot
joined_by true d b ss = each (joined d b.ended) b.recent (each (joined d b.ended) b.earlier ss)
joined_by false d b ss = each (joined d b.ended) (numbers_of b.changes) ss

abbrev pub turned_slots : ℕ → Branching → List Slot → List Slot
turned_slots d b ss = each (restarted d) b.recent (joined_by b.even d b ss)

-- a block where its next branch begins
abbrev pub turned_block : Branching → Branching
turned_block b = record b { ended = true; even = true; earlier = b.recent; recent = [] }

-- A branch ends, and the next one begins.
abbrev pub next_in : List Slot → List Branching → Tracked
next_in ss [] = record { slots = ss; blocks = [] }
next_in ss (b ∷ bs) =
    record { slots = turned_slots (suc (length bs)) b (take b.count ss); blocks = turned_block b ∷ bs }

-- ---- other moves

-- The branches from here on begin with an entry that means something else.
abbrev pub put_start : ℕ → (Meaning → Meaning) → Tracked → Tracked
put_start n f t = put_by (with_start f) n t

-- The ends of an entry so far are something else.
abbrev pub put_ends : ℕ → (Meaning → Meaning) → Tracked → Tracked
put_ends n f t = put_by (with_ends f) n t

-- what a component changed is as its end says
abbrev pub took : ℕ → Slot → Slot
took d s = if nat_eq s.mark d then with_end s.meaning s else s

abbrev pub component_slots : List ℕ → ℕ → Branching → List Slot → List Slot
component_slots ns d b ss = each (restarted d) b.recent (each (took d) ns ss)

-- a block where its next component begins
abbrev pub component_block : Branching → Branching
component_block b = record b { even = false; recent = [] }

-- A component ends, which changed the variables with these numbers, and the next one begins.
abbrev pub component_in : List ℕ → List Slot → List Branching → Tracked
component_in ns ss [] = record { slots = ss; blocks = [] }
component_in ns ss (b ∷ bs) = record {
  slots = component_slots ns (suc (length bs)) b (take b.count ss);
  blocks = component_block b ∷ bs;
}

-- what an entry means after a block
abbrev pub meaning_after : ℕ → Bool → Slot → Meaning
meaning_after d ended s = if nat_eq s.mark d then (if ended then s.ends else s.start) else s.meaning

abbrev pub put_if : Option Meaning → ℕ → Tracked → Tracked
put_if None n t = t
put_if (Some m) n t = put n m t

-- the entries with these numbers mean what a list says that has a meaning for each entry
abbrev pub puts : List ℕ → List Meaning → Tracked → Tracked
puts [] ms t = t
puts (n ∷ ns) ms t = puts ns ms (put_if (item_at n ms) n t)

-- A block ends: its changes are taken back, and what is known after it changes what is around it.
abbrev pub ended_in : List Slot → List Branching → Tracked
ended_in ss [] = record { slots = ss; blocks = [] }
ended_in ss (b ∷ bs) =
    puts (numbers_of b.changes) (map (meaning_after (suc (length bs)) b.ended) (take b.count ss))
    (record { slots = before b ss; blocks = bs })

-- ---- a block around that has empty lists

-- an entry that a block changed, where the block around has it in its lists
abbrev pub handed_slot : ℕ → ℕ → Bool → Meaning → Slot → Slot
handed_slot inner outer ended before s = record {
  name = s.name;
  meaning = meaning_after inner ended s;
  mark = outer;
  recent = true;
  start = before;
  ends = before;
}

-- all entries in the list of a block, the last one first
abbrev pub handed : ℕ → ℕ → Bool → List Change → List Slot → List Slot
handed inner outer ended [] ss = ss
handed inner outer ended (c ∷ cs) ss =
    modify (handed_slot inner outer ended c.before.meaning) c.number (handed inner outer ended cs ss)

abbrev pub handed_block : List Change → Branching → Branching
handed_block cs b = record b { changes = cs; recent = numbers_of cs }

-- A block ends, and the block around has its list.
abbrev pub handed_over : List Slot → Branching → Branching → List Branching → Tracked
handed_over ss b o bs = record {
  slots = handed (suc (suc (length bs))) (suc (length bs)) b.ended b.changes (take b.count ss);
  blocks = handed_block b.changes o ∷ bs;
}

-- changes of entries with which a block of this depth began, and which it does not have in its list
abbrev pub AreForeign : ℕ → ℕ → List Change → Type 0
AreForeign count d [] = Unit {0}
AreForeign count d (c ∷ cs) = (c.number < count) × (nat_eq c.before.mark d ≡ false) × AreForeign count d cs

-- The block around the innermost one has empty lists, and can have the innermost one's in their place.
abbrev pub HandsOver : List Branching → Type 0
HandsOver [] = ⊥
HandsOver (b ∷ []) = ⊥
HandsOver (b ∷ o ∷ bs) = (o.changes ≡ []) × (o.recent ≡ []) × AreForeign o.count (suc (length bs)) b.changes

-- ---- a block around others

-- an entry that a block of this depth has in both of its lists
abbrev pub noted_slot : ℕ → Slot → Slot
noted_slot d s = touched (if nat_eq s.mark d then s else marked d s)

abbrev pub listing_if : Bool → ℕ → Slot → Branching → Branching
listing_if t n s b = if t then b else listing n s b

abbrev pub touching_if : Bool → ℕ → Branching → Branching
touching_if t n b = if t then b else touching n b

-- the block with the lists that have it
abbrev pub noted_block : ℕ → ℕ → Slot → Branching → Branching
noted_block d n s b = touching_if (is_recent d s) n (listing_if (nat_eq s.mark d) n s b)

-- A block has capacity for an entry that comes to its lists.
abbrev pub HasRoom : ℕ → Slot → ℕ → ℕ → Branching → Type 0
HasRoom d s listed recent b =
    (nat_eq s.mark d ≡ false → length b.changes < listed) × (is_recent d s ≡ false → length b.recent < recent)

-- the same of an entry that there is or is not
abbrev pub HasRoomFor : ℕ → Option Slot → ℕ → ℕ → Branching → Type 0
HasRoomFor d None listed recent b = Unit {0}
HasRoomFor d (Some s) listed recent b = HasRoom d s listed recent b

abbrev pub noted_slots : ℕ → ℕ → Option Slot → List Slot → List Slot
noted_slots d n None ss = ss
noted_slots d n (Some s) ss = modify (noted_slot d) n ss

abbrev pub noted_in : ℕ → ℕ → Option Slot → Branching → Branching
noted_in d n None b = b
noted_in d n (Some s) b = noted_block d n s b

-- A block began with an entry that it does not have in its list.
abbrev pub IsOutside : ℕ → Branching → Type 0
IsOutside n b = (n < b.count) × (is_one_of (numbers_of b.changes) n ≡ false)

-- The same of the innermost blocks, as many as this, and there is a block around them.
abbrev pub AreOutside : ℕ → ℕ → List Branching → Type 0
AreOutside n a [] = ⊥
AreOutside n zero (b ∷ bs) = Unit {0}
AreOutside n (suc a) (b ∷ bs) = IsOutside n b × AreOutside n a bs

-- an entry that no block has in its list
abbrev pub fresh : Entry → Slot
fresh e = record {
  name = e.name;
  meaning = e.meaning;
  mark = 0;
  recent = false;
  start = e.meaning;
  ends = e.meaning;
}

-- One declaration more. No block has it in its list.
abbrev pub declared : Entry → Tracked → Tracked
declared e t = record { slots = t.slots ++ fresh e ∷ []; blocks = t.blocks }

-- Only the first entries are left, this number of them.
abbrev pub cut : ℕ → Tracked → Tracked
cut count t = record { slots = take count t.slots; blocks = t.blocks }

-- ---- what the moves promise

-- what the program has is what is known
pub record Follows (t : Tracked) (k : Known) : Type 0 where
  pub entries : seen entry_in t.slots ≡ k.entries
  pub blocks : blocks_in t.slots t.blocks ≡ k.blocks
  pub tracked : AreTracked t.slots t.blocks

-- an entry that means something else
abbrev pub changed_to : Meaning → ℕ → List Entry → List Entry
changed_to m n es = at_number (with_meaning (λ k. m)) n es

-- the same of all that is known
abbrev pub known_with : ℕ → Meaning → Known → Known
known_with n m k = record { entries = changed_to m n k.entries; blocks = k.blocks }

abbrev pub known_if : Option Meaning → ℕ → Known → Known
known_if None n k = k
known_if (Some m) n k = known_with n m k

-- an entry that means something else where the branches of the innermost block begin
abbrev pub changed_start : (Meaning → Meaning) → ℕ → List Block → List Block
changed_start f n [] = []
changed_start f n (b ∷ bs) = record { start = at_number (with_meaning f) n b.start; ends = b.ends } ∷ bs

-- an entry that means something else at the ends of the innermost block so far
abbrev pub changed_ends : (Meaning → Meaning) → ℕ → List Block → List Block
changed_ends f n [] = []
changed_ends f n (b ∷ bs) =
    record { start = b.start; ends = option_map (λ ds. at_number (with_meaning f) n ds) b.ends } ∷ bs

-- an entry that means something else where the branches of the innermost blocks begin, of as many as this, and at
-- their ends so far
abbrev pub changed_around : ℕ → Meaning → ℕ → List Block → List Block
changed_around a m n [] = []
changed_around zero m n (b ∷ bs) = b ∷ bs
changed_around (suc a) m n (b ∷ bs) =
    record { start = changed_to m n b.start; ends = option_map (λ ds. changed_to m n ds) b.ends }
    ∷ changed_around a m n bs

-- an entry that means something else at the ends so far of the block around the innermost ones, as many as this
abbrev pub ends_around : ℕ → (Meaning → Meaning) → ℕ → List Block → List Block
ends_around zero f n bs = changed_ends f n bs
ends_around (suc a) f n [] = []
ends_around (suc a) f n (b ∷ bs) = b ∷ ends_around a f n bs

-- an entry that means something else where the innermost blocks began, and here
abbrev pub known_around : ℕ → ℕ → Meaning → Known → Known
known_around a n m k = record { entries = changed_to m n k.entries; blocks = changed_around a m n k.blocks }

-- Each move of the lists is the move of what is known; and where a block began with an entry that is not in its list,
-- or its branch does not have it, that list is shorter than the entries that the block began with.
pub record ListsHold : Type 0 where
  pub changing : (n : ℕ) (m : Meaning) (t : Tracked) → AreTracked t.slots t.blocks
      → Follows (put n m t) (record { entries = changed_to m n (known_in t).entries; blocks = (known_in t).blocks })
  pub excluding : (n : ℕ) (f : Meaning → Meaning) (t : Tracked) → AreTracked t.slots t.blocks
      → Follows (put_start n f t)
      (record { entries = (known_in t).entries; blocks = changed_start f n (known_in t).blocks })
  pub beginning : (t : Tracked) → AreTracked t.slots t.blocks → Follows (begun false t) (begin (known_in t))
  pub beginning_par : (t : Tracked) → AreTracked t.slots t.blocks → Follows (begun true t) (begin_par (known_in t))
  pub going_on : (t : Tracked) → AreTracked t.slots t.blocks → Follows (next_in t.slots t.blocks) (next (known_in t))
  pub ending : (t : Tracked) → AreTracked t.slots t.blocks → Follows (ended_in t.slots t.blocks) (end (known_in t))
  pub components : (ns : List ℕ) (t : Tracked) → AreTracked t.slots t.blocks
      → Follows (component_in ns t.slots t.blocks) (next_component ns (known_in t))
  pub declaring : (e : Entry) (t : Tracked) → AreTracked t.slots t.blocks
      → Follows (declared e t) (record { entries = e ∷ (known_in t).entries; blocks = (known_in t).blocks })
  pub leaving : (count : ℕ) (t : Tracked) → AreTracked t.slots t.blocks → begun_with (known_in t).blocks ≤ count
      → Follows (cut count t)
      (record { entries = outermost count (known_in t).entries; blocks = (known_in t).blocks })
  pub room : (n : ℕ) (s : Slot) (ss : List Slot) (b : Branching) (bs : List Branching) → AreTracked ss (b ∷ bs)
      → item_at n (take b.count ss) ≡ Some s → nat_eq s.mark (suc (length bs)) ≡ false → length b.changes < b.count
  pub branch_room : (n : ℕ) (s : Slot) (ss : List Slot) (b : Branching) (bs : List Branching) → AreTracked ss (b ∷ bs)
      → item_at n (take b.count ss) ≡ Some s → is_recent (suc (length bs)) s ≡ false → length b.recent < b.count
