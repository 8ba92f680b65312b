-- Numbers cover what is left.
use Rattle.std.proofs.Common.{◌≡◌, ℕ, zero, suc, ◌+◌, ◌-◌, ◌*◌, ◌≤◌, ℤ, pos, Bool, true, false, List, [], ◌∷◌, ◌++◌}
use Rattle.std.proofs.Common.{length, drop, Option, Some, None, refl, sym, ap, subst, ◌∙◌, arith, zero-add}
use Rattle.std.proofs.Common.{append_assoc}
use Rattle.std.specs.Prelude.{take, sum, not, if◌then◌else◌}
use Rattle.std.specs.Option.{option_to_list}
use Rattle.std.proofs.lemmas.List.{drop-drop}
use Rattle.prefix_decoder.specs.declared.function.Fun.{Fun}
use Rattle.machine_state.specs.Waiting.{IsAbsent, AllDiffer}
use Rattle.module_builder.specs.Layouts.{offset}
use Rattle.module_builder.proofs.Growing.{offset-cons}
use Rattle.code_pieces.specs.declared.piece.RowEntry.{RowEntry}
use Rattle.code_pieces.specs.Pieces.{Piece, Direct, Jump, JumpUnless, LoopBack, Distance, StartBranch, Select}
use Rattle.code_pieces.specs.Pieces.{TableAddress, Row, Place, Within, Par}
use Rattle.code_pieces.specs.Placing.{label_in}
use Rattle.code_pieces.specs.Numbers.{Numbered, Needs, number_at, with_number, needs, at_head, turns_at, needed_before}
use Rattle.code_pieces.specs.Numbers.{is_stop}
use Rattle.code_pieces.specs.Laid.{needs_in}
use Rattle.code_pieces.specs.Laying.{size_of, lengths_behind, items_in, without_one, without_two, first_one, first_two}
use Rattle.placed_code.specs.LaidCode.{item_count, labels_in, LabelsArePlacedOnce}
use Rattle.placed_code.specs.RowsFound.{SaysRow}
use Rattle.placed_code.specs.NumbersCover.{needs_after, bytes_after, Covers, PaysAndCovers, row_number, loop_weight}
use Rattle.placed_code.specs.NumbersCover.{only_goes_on, head_of, heads_in, ComesAfter, IsBody, PiecesTakeTheirBytes}
use Rattle.placed_code.specs.NumbersCover.{LabelsKeepTheirNumbers, NumbersCover}
use Rattle.placed_code.proofs.PiecesLie.{item_count-append, number_other, number_here, differ_rest, absent_rest}
use Rattle.placed_code.proofs.PiecesLie.{is_among}

-- ---- lengths of items

one_behind : (ls : List ℕ) → without_one ls ≡ drop 1 ls
one_behind [] = refl
one_behind (a ∷ ls) = refl

two_behind : (ls : List ℕ) → without_two ls ≡ drop 2 ls
two_behind [] = refl
two_behind (a ∷ []) = refl
two_behind (a ∷ b ∷ ls) = refl

one_first : (ls : List ℕ) → first_one ls ≡ sum (take 1 ls)
one_first [] = refl
one_first (a ∷ ls) = omega arith

two_first : (ls : List ℕ) → first_two ls ≡ sum (take 2 ls)
two_first [] = refl
two_first (a ∷ []) = omega arith
two_first (a ∷ b ∷ ls) = omega arith

-- what a piece leaves of the lengths is what is after those of its items
lengths_are : (p : Piece) (ls : List ℕ) → lengths_behind p ls ≡ drop (length (items_in [] (pos 0) p)) ls
lengths_are (Direct f e) ls = one_behind ls
lengths_are (Jump to) ls = one_behind ls
lengths_are (JumpUnless to) ls = one_behind ls
lengths_are (LoopBack head behind) ls = two_behind ls
lengths_are (Distance from to) ls = one_behind ls
lengths_are (StartBranch entry successor) ls = one_behind ls
lengths_are (Select targets) ls = one_behind ls
lengths_are (TableAddress values) ls = one_behind ls
lengths_are (Row l entries) ls = refl
lengths_are (Place l) ls = refl
lengths_are (Within workspace) ls = refl
lengths_are (Par par) ls = refl

-- a piece has the bytes of its items
size_is : (p : Piece) (ls : List ℕ) → size_of p ls ≡ sum (take (length (items_in [] (pos 0) p)) ls)
size_is (Direct f e) ls = one_first ls
size_is (Jump to) ls = one_first ls
size_is (JumpUnless to) ls = one_first ls
size_is (LoopBack head behind) ls = two_first ls
size_is (Distance from to) ls = one_first ls
size_is (StartBranch entry successor) ls = one_first ls
size_is (Select targets) ls = one_first ls
size_is (TableAddress values) ls = one_first ls
size_is (Row l entries) ls = refl
size_is (Place l) ls = refl
size_is (Within workspace) ls = refl
size_is (Par par) ls = refl

none_taken : (k : ℕ) → sum (take k []) ≡ 0
none_taken zero = refl
none_taken (suc k) = refl

-- the first items and those after them
sum_both : (n k : ℕ) (ls : List ℕ) → sum (take n ls) + sum (take k (drop n ls)) ≡ sum (take (n + k) ls)
sum_both zero k ls = zero-add (sum (take k ls)) ∙ ap (λ (m : ℕ). sum (take m ls)) (sym (zero-add k))
sum_both (suc n) k [] = ap (λ (m : ℕ). 0 + m) (none_taken k) ∙ sym (none_taken (suc n + k))
sum_both (suc n) k (a ∷ ls) =
    let rest = sum_both n k ls in
    let next : suc (n + k) ≡ suc n + k = omega arith in
    let first : sum (take (suc n) (a ∷ ls)) ≡ a + sum (take n ls) = offset-cons a ls n in
    let all : sum (take (suc (n + k)) (a ∷ ls)) ≡ a + sum (take (n + k) ls) = offset-cons a ls (n + k) in
    let left : sum (take k (drop (suc n) (a ∷ ls))) ≡ sum (take k (drop n ls)) = refl in
    subst (λ (m : ℕ). sum (take (suc n) (a ∷ ls)) + sum (take k (drop (suc n) (a ∷ ls))) ≡ sum (take m (a ∷ ls))) next
    (omega (arith, rest, first, all, left))

-- what is left of the lengths after a piece, and then others
left_after : (p : Piece) (before : List Piece) (ls : List ℕ)
    → drop (item_count before) (lengths_behind p ls) ≡ drop (item_count (p ∷ before)) ls
left_after p before ls =
    ap (drop (item_count before)) (lengths_are p ls)
    ∙ drop-drop (item_count before) (length (items_in [] (pos 0) p)) ls

-- and after a piece that is the last one
left_behind : (before : List Piece) (p : Piece) (ls : List ℕ)
    → lengths_behind p (drop (item_count before) ls) ≡ drop (item_count (before ++ p ∷ [])) ls
left_behind before p ls =
    let both = item_count-append before (p ∷ []) in
    lengths_are p (drop (item_count before) ls)
    ∙ drop-drop (length (items_in [] (pos 0) p)) (item_count before) ls
    ∙ ap (λ (n : ℕ). drop n ls) (omega (arith, both))

pub pieces_take_their_bytes : PiecesTakeTheirBytes
pieces_take_their_bytes before lengths p =
    let both = item_count-append before (p ∷ []) in
    ap (λ (n : ℕ). offset lengths (item_count before) + n) (size_is p (drop (item_count before) lengths))
    ∙ sum_both (item_count before) (length (items_in [] (pos 0) p)) lengths
    ∙ ap (λ (n : ℕ). sum (take n lengths)) (omega (arith, both))

-- what is needed from a piece on, by what is needed after it
needed_first : (before : List Piece) (lengths : List ℕ) (p : Piece) (rest : List Piece)
    → needs_after before lengths (p ∷ rest)
    ≡ needed_before p (bytes_after before lengths p) (needs_after (before ++ p ∷ []) lengths rest)
needed_first before lengths p rest =
    ap (λ (ls : List ℕ). needed_before p (bytes_after before lengths p) (needs_in rest ls))
    (left_behind before p lengths)

-- ---- what a piece leaves as it is

-- whatever is needed, the rest is kept
either_kept : (F : Needs → List Numbered) → ((n : ℕ) (after : Needs) → F (needs n after) ≡ F after)
    → (b : Bool) (x y : ℕ) (after : Needs) → F (if b then needs x after else needs y after) ≡ F after
either_kept F kept true x y after = kept x after
either_kept F kept false x y after = kept y after

-- a row has what is needed after it
abbrev with_row : ℕ → Needs → Needs
with_row l after = record after { labels = with_number l after.need after.labels }

head_labels : (l : ℕ) (turns : Option ℕ) (after : Needs) → (at_head l turns after).labels ≡ after.labels
head_labels l None after = refl
head_labels l (Some count) after = refl

head_ends : (l : ℕ) (turns : Option ℕ) (after : Needs) → (at_head l turns after).ends ≡ after.ends
head_ends l None after = refl
head_ends l (Some count) after = refl

head_weights : (l m : ℕ) (turns : Option ℕ) (after : Needs) → (Some m ≡ Some l → ⊥)
    → number_at l (at_head m turns after).weights ≡ number_at l after.weights
head_weights l m None after other = refl
head_weights l m (Some count) after other =
    number_other l (after.need - number_at m after.ends) after.weights (Some m) other

-- a piece that does not place a label leaves its number
labels_kept : (l : ℕ) (p : Piece) (size : ℕ) (after : Needs) → (label_in p ≡ Some l → ⊥)
    → number_at l (needed_before p size after).labels ≡ number_at l after.labels
labels_kept l (Direct f e) size after other =
    ap (number_at l) (either_kept (λ n. n.labels) (λ n a. refl) (is_stop f e) size (size + after.need) after)
labels_kept l (Row m entries) size after other =
    ap (number_at l) (head_labels m (turns_at m entries) (with_row m after))
    ∙ number_other l after.need after.labels (Some m) other
labels_kept l (Jump to) size after other = refl
labels_kept l (JumpUnless to) size after other = refl
labels_kept l (LoopBack head behind) size after other = refl
labels_kept l (Distance from to) size after other = refl
labels_kept l (StartBranch entry successor) size after other = refl
labels_kept l (Select targets) size after other = refl
labels_kept l (TableAddress values) size after other = refl
labels_kept l (Place m) size after other = refl
labels_kept l (Within workspace) size after other = refl
labels_kept l (Par par) size after other = refl

-- and the weight of its loop
weights_kept : (l : ℕ) (p : Piece) (size : ℕ) (after : Needs) → (label_in p ≡ Some l → ⊥)
    → number_at l (needed_before p size after).weights ≡ number_at l after.weights
weights_kept l (Direct f e) size after other =
    ap (number_at l) (either_kept (λ n. n.weights) (λ n a. refl) (is_stop f e) size (size + after.need) after)
weights_kept l (Row m entries) size after other =
    head_weights l m (turns_at m entries) (with_row m after) other
weights_kept l (Jump to) size after other = refl
weights_kept l (JumpUnless to) size after other = refl
weights_kept l (LoopBack head behind) size after other = refl
weights_kept l (Distance from to) size after other = refl
weights_kept l (StartBranch entry successor) size after other = refl
weights_kept l (Select targets) size after other = refl
weights_kept l (TableAddress values) size after other = refl
weights_kept l (Place m) size after other = refl
weights_kept l (Within workspace) size after other = refl
weights_kept l (Par par) size after other = refl

-- a piece that does not end a turn of a loop leaves what is executed after it
ends_kept : (head : ℕ) (p : Piece) (size : ℕ) (after : Needs) → (head_of p ≡ Some head → ⊥)
    → number_at head (needed_before p size after).ends ≡ number_at head after.ends
ends_kept head (Direct f e) size after other =
    ap (number_at head) (either_kept (λ n. n.ends) (λ n a. refl) (is_stop f e) size (size + after.need) after)
ends_kept head (Row m entries) size after other =
    ap (number_at head) (head_ends m (turns_at m entries) (with_row m after))
ends_kept head (LoopBack h behind) size after other = number_other head after.need after.ends (Some h) other
ends_kept head (Jump to) size after other = refl
ends_kept head (JumpUnless to) size after other = refl
ends_kept head (Distance from to) size after other = refl
ends_kept head (StartBranch entry successor) size after other = refl
ends_kept head (Select targets) size after other = refl
ends_kept head (TableAddress values) size after other = refl
ends_kept head (Place m) size after other = refl
ends_kept head (Within workspace) size after other = refl
ends_kept head (Par par) size after other = refl

-- ---- from pieces before

-- what is among later pieces is among all
among_later : (l : ℕ) (before rest : List Piece) → (IsAbsent l (labels_in rest) → ⊥)
    → IsAbsent l (labels_in (before ++ rest)) → ⊥
among_later l [] rest among absent = among absent
among_later l (p ∷ before) rest among absent =
    among_later l before rest among (absent_rest l (label_in p) (labels_in (before ++ rest)) absent)

-- What only the piece that places a label changes is the same from any piece before it on.
later : (F : Needs → List Numbered) (l : ℕ)
    → ((p : Piece) (size : ℕ) (after : Needs) → (label_in p ≡ Some l → ⊥)
    → number_at l (F (needed_before p size after)) ≡ number_at l (F after))
    → (before rest : List Piece) (ls : List ℕ) → (IsAbsent l (labels_in rest) → ⊥)
    → AllDiffer (labels_in (before ++ rest))
    → number_at l (F (needs_in (before ++ rest) ls)) ≡ number_at l (F (needs_after before ls rest))
later F l kept [] rest ls among once = refl
later F l kept (p ∷ before) rest ls among once =
    let all = labels_in (before ++ rest) in
    let other : label_in p ≡ Some l → ⊥ =
    (λ (same : label_in p ≡ Some l).
    let first : AllDiffer (option_to_list (Some l) ++ all) =
    subst (λ (o : Option ℕ). AllDiffer (option_to_list o ++ all)) same once in
    among_later l before rest among first.0) in
    kept p (size_of p ls) (needs_in (before ++ rest) (lengths_behind p ls)) other
    ∙ later F l kept before rest (lengths_behind p ls) among (differ_rest (label_in p) all once)
    ∙ ap (λ (ms : List ℕ). number_at l (F (needs_in rest ms))) (left_after p before ls)

-- what is executed after a loop, from a piece of its body on
ends_later : (head : ℕ) (body rest : List Piece) (ls : List ℕ) → IsAbsent head (heads_in body)
    → number_at head (needs_in (body ++ rest) ls).ends ≡ number_at head (needs_after body ls rest).ends
ends_later head [] rest ls absent = refl
ends_later head (p ∷ body) rest ls absent =
    let other : head_of p ≡ Some head → ⊥ =
    (λ (same : head_of p ≡ Some head).
    let first : IsAbsent head (option_to_list (Some head) ++ heads_in body) =
    subst (λ (o : Option ℕ). IsAbsent head (option_to_list o ++ heads_in body)) same absent in
    first.0 refl) in
    ends_kept head p (size_of p ls) (needs_in (body ++ rest) (lengths_behind p ls)) other
    ∙ ends_later head body rest (lengths_behind p ls) (absent_rest head (head_of p) (heads_in body) absent)
    ∙ ap (λ (ms : List ℕ). number_at head (needs_in rest ms).ends) (left_after p body ls)

-- ---- labels

-- so its label has that number
row_has : (l : ℕ) (entries : List RowEntry) (size : ℕ) (after : Needs)
    → number_at l (needed_before (Row l entries) size after).labels ≡ after.need
row_has l entries size after =
    ap (number_at l) (head_labels l (turns_at l entries) (with_row l after))
    ∙ number_here l after.need after.labels (Some l) refl

module _ (ps : List Piece) (labels : ℕ) (lengths : List ℕ) (before : List Piece) (l : ℕ) (entries : List RowEntry)
    (rest : List Piece) (c : ComesAfter ps labels before (Row l entries) rest) where
  -- what is known from the row on
  from_row : (F : Needs → List Numbered)
      → ((p : Piece) (size : ℕ) (after : Needs) → (label_in p ≡ Some l → ⊥)
      → number_at l (F (needed_before p size after)) ≡ number_at l (F after))
      → number_at l (F (needs_in ps lengths)) ≡ number_at l (F (needed_before (Row l entries)
      (bytes_after before lengths (Row l entries)) (needs_after (before ++ Row l entries ∷ []) lengths rest)))
  from_row F kept =
      ap (λ (qs : List Piece). number_at l (F (needs_in qs lengths))) c.whole
      ∙ later F l kept before (Row l entries ∷ rest) lengths (is_among l [] (Row l entries) rest refl)
      (subst (λ (qs : List Piece). AllDiffer (labels_in qs)) c.whole c.once.once)
      ∙ ap (λ (n : Needs). number_at l (F n)) (needed_first before lengths (Row l entries) rest)

  pub row_needed : row_number ps lengths l ≡ (needs_after (before ++ Row l entries ∷ []) lengths rest).need
  row_needed =
      from_row (λ n. n.labels) (labels_kept l)
      ∙ row_has l entries (bytes_after before lengths (Row l entries))
      (needs_after (before ++ Row l entries ∷ []) lengths rest)

row_same : (ps : List Piece) (labels : ℕ) (lengths : List ℕ) (before rest middle : List Piece) (l : ℕ)
    (entries : List RowEntry) → LabelsArePlacedOnce ps labels → ps ≡ before ++ rest → SaysRow rest middle l entries
    → row_number ps lengths l ≡ number_at l (needs_after before lengths rest).labels
row_same ps labels lengths before rest middle l entries once whole is =
    ap (λ (qs : List Piece). row_number qs lengths l) whole
    ∙ later (λ n. n.labels) l (labels_kept l) before rest lengths
    (λ absent. is_among l middle (Row l entries) is.rest refl
    (subst (λ (qs : List Piece). IsAbsent l (labels_in qs)) is.whole absent))
    (subst (λ (qs : List Piece). AllDiffer (labels_in qs)) whole once.once)

pub labels_keep_their_numbers : LabelsKeepTheirNumbers
labels_keep_their_numbers = record { needed = row_needed; same = row_same }

-- ---- numbers

going_on : (b : Bool) (size : ℕ) (after : Needs) → not b ≡ true
    → (if b then needs size after else needs (size + after.need) after).need ≡ size + after.need
going_on true size after is = absurd (cc)
going_on false size after is = refl

-- before a piece after which the next one follows, its bytes are needed and what is needed after it
need_on : (p : Piece) (size : ℕ) (after : Needs) → only_goes_on p ≡ true
    → (needed_before p size after).need ≡ size + after.need
need_on (Direct f e) size after is = going_on (is_stop f e) size after is
need_on (Distance from to) size after is = refl
need_on (TableAddress values) size after is = refl
need_on (Place l) size after is = refl
need_on (Within workspace) size after is = refl
need_on (Par par) size after is = refl
need_on (Jump to) size after is = absurd (cc)
need_on (JumpUnless to) size after is = absurd (cc)
need_on (LoopBack head behind) size after is = absurd (cc)
need_on (StartBranch entry successor) size after is = absurd (cc)
need_on (Select targets) size after is = absurd (cc)
need_on (Row l entries) size after is = absurd (cc)

goes_on : (before : List Piece) (lengths : List ℕ) (p : Piece) (rest : List Piece) (number : ℕ)
    → only_goes_on p ≡ true → Covers before lengths (p ∷ rest) number → PaysAndCovers before lengths p rest number
goes_on before lengths p rest number is covers =
    let first = ap (λ (n : Needs). n.need) (needed_first before lengths p rest)
    ∙ need_on p (bytes_after before lengths p) (needs_after (before ++ p ∷ []) lengths rest) is in
    omega (arith, first, covers)

stops : (before : List Piece) (lengths : List ℕ) (f : Fun) (e : ℤ) (rest : List Piece) (number : ℕ)
    → is_stop f e ≡ true → Covers before lengths (Direct f e ∷ rest) number
    → bytes_after before lengths (Direct f e) ≤ number
stops before lengths f e rest number is covers =
    let size = bytes_after before lengths (Direct f e) in
    let after = needs_after (before ++ Direct f e ∷ []) lengths rest in
    let first = ap (λ (n : Needs). n.need) (needed_first before lengths (Direct f e) rest)
    ∙ ap (λ (b : Bool). (if b then needs size after else needs (size + after.need) after).need) is in
    omega (arith, first, covers)

-- a label is further on than a piece before its row
further_on : (ps : List Piece) (labels : ℕ) (lengths : List ℕ) (before : List Piece) (p : Piece) (l : ℕ)
    (rest middle : List Piece) (entries : List RowEntry) → ComesAfter ps labels before p rest
    → SaysRow rest middle l entries
    → row_number ps lengths l ≡ number_at l (needs_after (before ++ p ∷ []) lengths rest).labels
further_on ps labels lengths before p l rest middle entries c is =
    row_same ps labels lengths (before ++ p ∷ []) rest middle l entries c.once
    (c.whole ∙ sym (append_assoc before (p ∷ []) rest)) is

jumps : (ps : List Piece) (labels : ℕ) (lengths : List ℕ) (before : List Piece) (l : ℕ) (rest middle : List Piece)
    (entries : List RowEntry) (number : ℕ) → ComesAfter ps labels before (Jump l) rest
    → SaysRow rest middle l entries → Covers before lengths (Jump l ∷ rest) number
    → bytes_after before lengths (Jump l) + row_number ps lengths l ≤ number
jumps ps labels lengths before l rest middle entries number c is covers =
    let first = ap (λ (n : Needs). n.need) (needed_first before lengths (Jump l) rest) in
    let row = further_on ps labels lengths before (Jump l) l rest middle entries c is in
    omega (arith, first, row, covers)

tests : (ps : List Piece) (labels : ℕ) (lengths : List ℕ) (before : List Piece) (l : ℕ) (rest middle : List Piece)
    (entries : List RowEntry) (number : ℕ) → ComesAfter ps labels before (JumpUnless l) rest
    → SaysRow rest middle l entries → Covers before lengths (JumpUnless l ∷ rest) number
    → (bytes_after before lengths (JumpUnless l) + row_number ps lengths l ≤ number)
    × PaysAndCovers before lengths (JumpUnless l) rest number
tests ps labels lengths before l rest middle entries number c is covers =
    let first = ap (λ (n : Needs). n.need) (needed_first before lengths (JumpUnless l) rest) in
    let row = further_on ps labels lengths before (JumpUnless l) l rest middle entries c is in
    (omega (arith, first, row, covers), omega (arith, first, covers))

rows : (ps : List Piece) (labels : ℕ) (lengths : List ℕ) (before : List Piece) (l : ℕ) (entries : List RowEntry)
    (rest : List Piece) (number : ℕ) → ComesAfter ps labels before (Row l entries) rest → turns_at l entries ≡ None
    → Covers before lengths (Row l entries ∷ rest) number → row_number ps lengths l ≤ number
rows ps labels lengths before l entries rest number c none covers =
    let after = needs_after (before ++ Row l entries ∷ []) lengths rest in
    let first = ap (λ (n : Needs). n.need) (needed_first before lengths (Row l entries) rest)
    ∙ ap (λ (o : Option ℕ). (at_head l o (with_row l after)).need) none in
    let row = row_needed ps labels lengths before l entries rest c in
    omega (arith, first, row, covers)

-- the weight of a loop is what is needed from its head on, less what is needed after it
weight_is : (ps : List Piece) (labels : ℕ) (lengths : List ℕ) (before : List Piece) (head : ℕ)
    (entries : List RowEntry) (rest : List Piece) (count : ℕ) → ComesAfter ps labels before (Row head entries) rest
    → turns_at head entries ≡ Some count
    → loop_weight ps lengths head ≡ (needs_after (before ++ Row head entries ∷ []) lengths rest).need
    - number_at head (needs_after (before ++ Row head entries ∷ []) lengths rest).ends
weight_is ps labels lengths before head entries rest count c begins =
    let after = needs_after (before ++ Row head entries ∷ []) lengths rest in
    from_row ps labels lengths before head entries rest c (λ n. n.weights) (weights_kept head)
    ∙ ap (λ (o : Option ℕ). number_at head
    (at_head head o (with_row head after)).weights) begins
    ∙ number_here head (after.need - number_at head after.ends) after.weights (Some head) refl

heads : (ps : List Piece) (labels : ℕ) (lengths : List ℕ) (before : List Piece) (head : ℕ) (entries : List RowEntry)
    (rest : List Piece) (count number : ℕ) → ComesAfter ps labels before (Row head entries) rest
    → turns_at head entries ≡ Some count → Covers before lengths (Row head entries ∷ rest) number
    → row_number ps lengths head + loop_weight ps lengths head * (count - 1) ≤ number
heads ps labels lengths before head entries rest count number c begins covers =
    let after = needs_after (before ++ Row head entries ∷ []) lengths rest in
    let first = ap (λ (n : Needs). n.need) (needed_first before lengths (Row head entries) rest)
    ∙ ap (λ (o : Option ℕ). (at_head head o
    (with_row head after)).need) begins in
    let row = row_needed ps labels lengths before head entries rest c in
    let weight = weight_is ps labels lengths before head entries rest count c begins in
    subst (λ (n : ℕ). n ≤ number)
    (first ∙ sym (ap (λ (n : ℕ). n + loop_weight ps lengths head * (count - 1)) row
    ∙ ap (λ (w : ℕ). after.need + w * (count - 1)) weight)) covers

module _ (ps : List Piece) (labels : ℕ) (lengths : List ℕ) (before turn : List Piece) (head behind : ℕ)
    (entries : List RowEntry) (rest : List Piece) (count number : ℕ)
    (c : ComesAfter ps labels turn (LoopBack head behind) rest) (b : IsBody before turn head entries count) where
  begun : ComesAfter ps labels before (Row head entries) (b.body ++ LoopBack head behind ∷ rest)
  begun = record {
    whole = c.whole ∙ ap (λ (t : List Piece). t ++ LoopBack head behind ∷ rest) b.whole
        ∙ append_assoc before (Row head entries ∷ b.body) (LoopBack head behind ∷ rest);
    once = c.once;
  }

  -- what is executed after the loop is what is needed after the end of a turn
  ends_are : number_at head
      (needs_after (before ++ Row head entries ∷ []) lengths (b.body ++ LoopBack head behind ∷ rest)).ends
      ≡ (needs_after (turn ++ LoopBack head behind ∷ []) lengths rest).need
  ends_are =
      let row = Row head entries in
      let back = LoopBack head behind in
      let start = drop (item_count (before ++ row ∷ [])) lengths in
      let first = item_count-append before (row ∷ []) in
      let all = ap item_count b.whole ∙ item_count-append before (row ∷ b.body) in
      let there : drop (item_count b.body) start ≡ drop (item_count turn) lengths =
      drop-drop (item_count b.body) (item_count (before ++ row ∷ [])) lengths
      ∙ ap (λ (n : ℕ). drop n lengths) (omega (arith, first, all)) in
      let after = needs_after (turn ++ back ∷ []) lengths rest in
      ends_later head b.body (back ∷ rest) start b.other
      ∙ ap (λ (ms : List ℕ). number_at head (needs_in (back ∷ rest) ms).ends) there
      ∙ ap (λ (n : Needs). number_at head n.ends) (needed_first turn lengths back rest)
      ∙ number_here head after.need after.ends (Some head) refl

  turns : Covers turn lengths (LoopBack head behind ∷ rest) number
      → PaysAndCovers turn lengths (LoopBack head behind) rest number
      × (bytes_after turn lengths (LoopBack head behind) + row_number ps lengths head
      ≤ number + loop_weight ps lengths head)
  turns covers =
      let others = b.body ++ LoopBack head behind ∷ rest in
      let first = ap (λ (n : Needs). n.need) (needed_first turn lengths (LoopBack head behind) rest) in
      let row = row_needed ps labels lengths before head entries others begun in
      let weight = weight_is ps labels lengths before head entries others count begun b.begins in
      (omega (arith, first, covers), omega (arith, first, row, weight, ends_are, covers))

pub numbers_cover : NumbersCover
numbers_cover = record {
  goes_on = goes_on;
  stops = stops;
  jumps = jumps;
  tests = tests;
  rows = rows;
  heads = heads;
  turns = turns;
}
