-- Where pieces lie in the code of a module that says them.
use Rattle.std.proofs.Common.{◌≡◌, ◌⊎◌, ℕ, zero, suc, ◌+◌, ◌-◌, ◌*◌, ◌<◌, ◌≤◌, ℤ, pos, Bool, true, false, List, []}
use Rattle.std.proofs.Common.{◌∷◌, ◌++◌}
use Rattle.std.proofs.Common.{length, ◌%◌, ◌^◌, drop, get_or, slice_get, Option, Some, None, FitsSigned, refl}
use Rattle.std.proofs.Common.{sym, ap, subst, ◌∙◌, inl, inr}
use Rattle.std.proofs.Common.{arith, append_assoc, length-append, zero-add, add-zero}
use Rattle.std.specs.Prelude.{sum, unwrap_or, if◌then◌else◌, ◌-ℤ◌}
use Rattle.std.specs.Int.{w32}
use Rattle.std.specs.List.{AllByRecursion}
use Rattle.std.specs.Option.{option_to_list}
use Rattle.std.proofs.lemmas.Bool.{cases_lt, lt-ltb, le-ltb, eq-eqb}
use Rattle.std.proofs.lemmas.Bool.Decides.{eqb_tells}
use Rattle.std.proofs.lemmas.List.{drop_at, drop-drop, get_or-append-add}
use Rattle.prefix_decoder.specs.declared.function.Fun.{Fun}
use Rattle.prefix_decoder.specs.declared.function.Fun.TheVariants as fun
use Rattle.prefix_decoder.specs.Spelling.{spelling}
use Rattle.prefix_decoder.specs.declared.decoding.Instr.{Instr}
use Rattle.machine_state.specs.LocalStep.{address, target, word_of}
use Rattle.machine_state.specs.Waiting.{IsAbsent, AllDiffer}
use Rattle.module_format.specs.declared.limits.TheConstants.{MAX_LONG_CODE, MAX_CONSTANTS}
use Rattle.module_builder.specs.declared.item.Item.{Item}
use Rattle.module_builder.specs.declared.item.Operand.{Operand}
use Rattle.module_builder.specs.declared.item.Operand.TheVariants as operands
use Rattle.module_builder.specs.declared.item.Item.TheVariants as items
use Rattle.module_builder.specs.Drafts.{Code}
use Rattle.module_builder.specs.Layouts.{offset, value, load_len, Fits}
use Rattle.module_builder.specs.Spelling.{constants_start, ldpi}
use Rattle.module_builder.proofs.Growing.{offset-le-sum}
use Rattle.code_pieces.specs.declared.operations.TheConstants.{LOOP_END, START_PROCESS, ALTERNATION_END}
use Rattle.code_pieces.specs.declared.piece.Workspace.{Workspace}
use Rattle.code_pieces.specs.Pars.{in_root}
use Rattle.code_pieces.specs.Pieces.{Piece, Direct, Jump, JumpUnless, LoopBack, Distance, StartBranch, Select}
use Rattle.code_pieces.specs.Pieces.{TableAddress, Row, Place, Within, Par}
use Rattle.code_pieces.specs.Placing.{label_in}
use Rattle.code_pieces.specs.Numbers.{Numbered, number_at, with_number}
use Rattle.code_pieces.specs.Laying.{items_in, items_from, workspace_behind, label, draft_code, offset_in}
use Rattle.code_pieces.specs.Laying.{tables_before}
use Rattle.code_pieces.specs.Laying.{placed_from, places_of, are_same, operand_at, distance, operation}
use Rattle.code_pieces.specs.Tables.{constants_of, table_bytes, value_bytes}
use Rattle.placed_code.specs.Instructions.{AreFetched, none, more, instruction, filling, distance_to}
use Rattle.placed_code.specs.Instructions.{address_instructions}
use Rattle.placed_code.specs.LaidCode.{LaidCode, Fetches, Reaches, LoopsBack, LoadsTable, IsAt, Lie, laid_code}
use Rattle.placed_code.specs.LaidCode.{item_count}
use Rattle.placed_code.specs.LaidCode.{workspace_after, labels_in, LabelsArePlacedOnce, StaysAt, IsPart, PiecesLie}
use Rattle.placed_code.specs.LaidCode as laid
use Rattle.placed_code.proofs.Distances.{distance_fits, number_fits, distance_reaches, distance_goes_back}
use Rattle.placed_code.proofs.Distances.{address_reaches}
use Rattle.placed_code.proofs.ItemsFetched.{items_are_fetched}

-- ---- single instructions

-- the one instruction of a list
one_fetched : {code : List ℕ} {at : ℕ} {i : Instr} {to : ℕ} → AreFetched code at (i ∷ []) to
    → Fetches code at i.fun i.operand to
one_fetched (more {i = i} there none) = record { len = i.len; there = there; ends = refl }

-- `ldc`, maybe `adc 0`, and `ldpi`
pub record Three (code : List ℕ) (at : ℕ) (distance : ℤ) (to : ℕ) : Type 0 where
  pub middle : ℕ
  pub last : ℕ
  pub loads : Fetches code at fun.LoadConstant distance middle
  pub fills : (middle ≡ last) ⊎ Fetches code middle fun.AddConstant (pos 0) last
  pub points : Fetches code last fun.Operate (pos ldpi) to

-- without `adc 0`
two_are : {code : List ℕ} {at to : ℕ} (distance : ℤ)
    → AreFetched code at (instruction fun.LoadConstant distance ∷ instruction fun.Operate (pos ldpi) ∷ []) to
    → Three code at distance to
two_are {at = at} distance (more there rest) = record {
  middle = at + _;
  last = at + _;
  loads = record { len = _; there = there; ends = refl };
  fills = inl refl;
  points = one_fetched rest;
}

-- with it
three_are : {code : List ℕ} {at to : ℕ} (distance : ℤ)
    → AreFetched code at (instruction fun.LoadConstant distance ∷ instruction fun.AddConstant (pos 0)
    ∷ instruction fun.Operate (pos ldpi) ∷ []) to
    → Three code at distance to
three_are {at = at} distance (more there (more filled rest)) = record {
  middle = at + _;
  last = at + _ + _;
  loads = record { len = _; there = there; ends = refl };
  fills = inr (record { len = _; there = filled; ends = refl });
  points = one_fetched rest;
}

-- by whether the bytes before are fewer than there is place for
address_fetched : (code : List ℕ) (at to : ℕ) (lengths : List ℕ) (end n : ℕ)
    → AreFetched code at (address_instructions lengths end n) to → Three code at (pos (distance_to lengths end n)) to
address_fetched code at to lengths end n all =
    let load : Instr = instruction fun.LoadConstant (pos (distance_to lengths end n)) in
    let size : ℕ = load_len lengths end n in
    elim (cases_lt load.len size) [
      | inl short ↦ three_are (pos (distance_to lengths end n)) (rw (lt-ltb load.len size short) at all)
      | inr long ↦ two_are (pos (distance_to lengths end n)) (rw (le-ltb load.len size long) at all)
    ]

-- ---- lists from an item on

-- the first item from a place on is the one at that place
pub get_from_drop : {A : Type 0} (xs : List A) (n : ℕ) (x : A) (ys : List A) → drop n xs ≡ x ∷ ys
    → slice_get xs n ≡ Some x
get_from_drop [] zero x ys is = absurd (cc)
get_from_drop [] (suc n) x ys is = absurd (cc)
get_from_drop (y ∷ xs) zero x ys is =
    let same : y ≡ x = cc in
    ap Some same
get_from_drop (y ∷ xs) (suc n) x ys is = get_from_drop xs n x ys is

-- what is after it
pub drop_next : {A : Type 0} (xs : List A) (n : ℕ) (x : A) (ys : List A) → drop n xs ≡ x ∷ ys → drop (suc n) xs ≡ ys
drop_next [] zero x ys is = absurd (cc)
drop_next [] (suc n) x ys is = absurd (cc)
drop_next (y ∷ xs) zero x ys is = cc
drop_next (y ∷ xs) (suc n) x ys is = drop_next xs n x ys is

-- what is after some items from a place on
drop_more : {A : Type 0} (xs ys zs : List A) (n : ℕ) → drop n xs ≡ ys ++ zs → drop (n + length ys) xs ≡ zs
drop_more xs ys zs n is =
    sym (drop-drop (length ys) n xs) ∙ ap (drop (length ys)) is ∙ drop_at ys zs (length ys) refl

-- ---- what pieces count

-- how many items a piece has does not depend on tables and workspaces
count_is : (ts : List (List ℤ)) (depth : ℤ) (p : Piece) → length (items_in ts depth p) ≡ length (items_in [] (pos 0) p)
count_is ts depth (Direct f e) = refl
count_is ts depth (Jump to) = refl
count_is ts depth (JumpUnless to) = refl
count_is ts depth (LoopBack head behind) = refl
count_is ts depth (Distance from to) = refl
count_is ts depth (StartBranch entry successor) = refl
count_is ts depth (Select targets) = refl
count_is ts depth (TableAddress values) = refl
count_is ts depth (Row l entries) = refl
count_is ts depth (Place l) = refl
count_is ts depth (Within workspace) = refl
count_is ts depth (Par par) = refl

pub item_count-append : (ps qs : List Piece) → item_count (ps ++ qs) ≡ item_count ps + item_count qs
item_count-append [] qs = sym (zero-add (item_count qs))
item_count-append (p ∷ ps) qs =
    let rest = item_count-append ps qs in
    omega (arith, rest)

-- pieces have as many items as are counted
pub length-items : (ts : List (List ℤ)) (workspace : Workspace) (ps : List Piece)
    → length (items_from workspace ts ps) ≡ item_count ps
length-items ts workspace [] = refl
length-items ts workspace (p ∷ ps) =
    let here = count_is ts workspace.depth p in
    let rest = length-items ts (workspace_behind p workspace) ps in
    let both = length-append (items_in ts workspace.depth p) (items_from (workspace_behind p workspace) ts ps) in
    omega (arith, here, rest, both)

-- the items after pieces
items_after : (ts : List (List ℤ)) (workspace : Workspace) (before later : List Piece)
    → drop (item_count before) (items_from workspace ts (before ++ later))
    ≡ items_from (workspace_after before workspace) ts later
items_after ts workspace [] later = refl
items_after ts workspace (p ∷ before) later =
    let first = items_in ts workspace.depth p in
    let others = items_from (workspace_behind p workspace) ts (before ++ later) in
    let size : length first ≡ length (items_in [] (pos 0) p) = count_is ts workspace.depth p in
    sym (drop-drop (item_count before) (length (items_in [] (pos 0) p)) (first ++ others))
    ∙ ap (λ (xs : List Item). drop (item_count before) xs)
    (drop_at first others (length (items_in [] (pos 0) p)) size)
    ∙ items_after ts (workspace_behind p workspace) before later

-- the workspace after a piece
depth_stays : (depth : ℕ) (p : Piece) (workspace : Workspace) → workspace.depth ≡ pos depth → StaysAt depth p
    → (workspace_behind p workspace).depth ≡ pos depth
depth_stays depth (Direct f e) workspace is stays = is
depth_stays depth (Jump to) workspace is stays = is
depth_stays depth (JumpUnless to) workspace is stays = is
depth_stays depth (LoopBack head behind) workspace is stays = is
depth_stays depth (Distance from to) workspace is stays = is
depth_stays depth (StartBranch entry successor) workspace is stays = is
depth_stays depth (Select targets) workspace is stays = is
depth_stays depth (TableAddress values) workspace is stays = is
depth_stays depth (Row l entries) workspace is stays = is
depth_stays depth (Place l) workspace is stays = is
depth_stays depth (Within other) workspace is stays = stays
depth_stays depth (Par par) workspace is stays = is

-- ---- labels

-- where a piece that places a label is counted
abbrev pub with_label : Option ℕ → ℕ → List Numbered → List Numbered
with_label None n ns = ns
with_label (Some l) n ns = with_number l n ns

placed_cons : (k : ℕ) (p : Piece) (ps : List Piece)
    → placed_from k (p ∷ ps) ≡ with_label (label_in p) k (placed_from (k + length (items_in [] (pos 0) p)) ps)
placed_cons k (Row l entries) ps = ap (λ (n : ℕ). with_number l k (placed_from n ps)) (sym (add-zero k))
placed_cons k (Place l) ps = ap (λ (n : ℕ). with_number l k (placed_from n ps)) (sym (add-zero k))
placed_cons k (Direct f e) ps = refl
placed_cons k (Jump to) ps = refl
placed_cons k (JumpUnless to) ps = refl
placed_cons k (LoopBack head behind) ps = refl
placed_cons k (Distance from to) ps = refl
placed_cons k (StartBranch entry successor) ps = refl
placed_cons k (Select targets) ps = refl
placed_cons k (TableAddress values) ps = refl
placed_cons k (Within workspace) ps = refl
placed_cons k (Par par) ps = refl

-- the label of another piece says nothing of this one
pub number_other : (l k : ℕ) (ns : List Numbered) (o : Option ℕ) → (o ≡ Some l → ⊥)
    → number_at l (with_label o k ns) ≡ number_at l ns
number_other l k ns None other = refl
number_other l k ns (Some m) other =
    elim (eqb_tells m l) [
      | inl same ↦ absurd (other (ap Some same.1))
      | inr differs ↦ ap (λ (b : Bool). if b then k else number_at l ns) differs.0
    ]

-- and its own is where it is counted
pub number_here : (l k : ℕ) (ns : List Numbered) (o : Option ℕ) → o ≡ Some l → number_at l (with_label o k ns) ≡ k
number_here l k ns o is =
    ap (λ (p : Option ℕ). number_at l (with_label p k ns)) is
    ∙ ap (λ (b : Bool). if b then k else number_at l ns) (eq-eqb l l refl)

-- what holds of all labels holds of those of later pieces
pub differ_rest : (o : Option ℕ) (ls : List ℕ) → AllDiffer (option_to_list o ++ ls) → AllDiffer ls
differ_rest None ls all = all
differ_rest (Some l) ls all = all.1

pub absent_rest : (l : ℕ) (o : Option ℕ) (ls : List ℕ) → IsAbsent l (option_to_list o ++ ls) → IsAbsent l ls
absent_rest l None ls absent = absent
absent_rest l (Some m) ls absent = absent.1

made_rest : (labels : ℕ) (o : Option ℕ) (ls : List ℕ) → AllByRecursion (λ l. l < labels) (option_to_list o ++ ls)
    → AllByRecursion (λ l. l < labels) ls
made_rest labels None ls made = made
made_rest labels (Some l) ls made = made.1

-- a label that a piece places is among those of pieces that have it
pub is_among : (l : ℕ) (done : List Piece) (p : Piece) (later : List Piece) → label_in p ≡ Some l
    → IsAbsent l (labels_in (done ++ p ∷ later)) → ⊥
is_among l [] p later is absent =
    let here : IsAbsent l (option_to_list (Some l) ++ labels_in later) =
    subst (λ (o : Option ℕ). IsAbsent l (option_to_list o ++ labels_in later)) is absent in
    here.0 refl
is_among l (q ∷ done) p later is absent =
    is_among l done p later is (absent_rest l (label_in q) (labels_in (done ++ p ∷ later)) absent)

is_made : (labels l : ℕ) (done : List Piece) (p : Piece) (later : List Piece) → label_in p ≡ Some l
    → AllByRecursion (λ l. l < labels) (labels_in (done ++ p ∷ later)) → l < labels
is_made labels l [] p later is made =
    let here : AllByRecursion (λ l. l < labels) (option_to_list (Some l) ++ labels_in later) =
    subst (λ (o : Option ℕ). AllByRecursion (λ l. l < labels) (option_to_list o ++ labels_in later)) is made in
    here.0
is_made labels l (q ∷ done) p later is made =
    is_made labels l done p later is (made_rest labels (label_in q) (labels_in (done ++ p ∷ later)) made)

-- a label is placed after as many items as the pieces before it have
placed_after : (l k : ℕ) (done : List Piece) (p : Piece) (later : List Piece) → label_in p ≡ Some l
    → AllDiffer (labels_in (done ++ p ∷ later))
    → number_at l (placed_from k (done ++ p ∷ later)) ≡ k + item_count done
placed_after l k [] p later is once =
    ap (λ (ns : List Numbered). number_at l ns) (placed_cons k p later)
    ∙ number_here l k (placed_from (k + length (items_in [] (pos 0) p)) later) (label_in p) is ∙ sym (add-zero k)
placed_after l k (q ∷ done) p later is once =
    let all = done ++ p ∷ later in
    let size = length (items_in [] (pos 0) q) in
    let other : label_in q ≡ Some l → ⊥ =
    (λ (same : label_in q ≡ Some l).
    let first : AllDiffer (option_to_list (Some l) ++ labels_in all) =
    subst (λ (o : Option ℕ). AllDiffer (option_to_list o ++ labels_in all)) same once in
    is_among l done p later is first.0) in
    let rest = placed_after l (k + size) done p later is (differ_rest (label_in q) (labels_in all) once) in
    let sum_is : k + size + item_count done ≡ k + (size + item_count done) = omega arith in
    ap (λ (ns : List Numbered). number_at l ns) (placed_cons k q all)
    ∙ number_other l k (placed_from (k + size) all) (label_in q) other ∙ rest ∙ sum_is

pub length-places : (n : ℕ) (placed : List Numbered) → length (places_of n placed) ≡ n
length-places zero placed = refl
length-places (suc n) placed =
    let before = length-places n placed in
    let both = length-append (places_of n placed) (Some (number_at n placed) ∷ []) in
    omega (arith, before, both)

-- the place of a label that is made
places_at : (n : ℕ) (placed : List Numbered) (others : List (Option ℕ)) (l : ℕ) → l < n
    → get_or (places_of n placed ++ others) l None ≡ Some (number_at l placed)
places_at zero placed others l less = absurd (omega arith)
places_at (suc n) placed others l less =
    let here : Option ℕ = Some (number_at n placed) in
    ap (λ (os : List (Option ℕ)). get_or os l None) (append_assoc (places_of n placed) (here ∷ []) others)
    ∙ elim (cases_lt l n) [
      | inl before ↦ places_at n placed (here ∷ others) l before
      | inr last ↦
          let same : n ≡ l = omega (arith, less, last) in
          let size = length-places n placed in
          let there : length (places_of n placed) + 0 ≡ l = omega (arith, same, size) in
          subst (λ (k : ℕ). get_or (places_of n placed ++ here ∷ others) k None ≡ Some (number_at l placed)) there
          (get_or-append-add (places_of n placed) (here ∷ others) 0 None
          ∙ ap (λ (k : ℕ). Some (number_at k placed)) same)
    ]

-- ---- tables

-- a table has four bytes for each value
pub length-table : (t : List ℤ) → length (table_bytes t) ≡ 4 * length t
length-table [] = refl
length-table (v ∷ t) =
    let rest = length-table t in
    let both = length-append (value_bytes v) (table_bytes t) in
    omega (arith, rest, both)

offset_by : (same : Bool) (size rest all : ℕ) → rest ≤ all → (if same then 0 else size + rest) ≤ size + all
offset_by true size rest all less = omega arith
offset_by false size rest all less = omega (arith, less)

-- a table begins among the constants
offset_within : (ts : List (List ℤ)) (values : List ℤ) → offset_in ts values ≤ length (constants_of ts)
offset_within [] values = omega arith
offset_within (t ∷ ts) values =
    let rest = offset_within ts values in
    let size = length-table t in
    let both = length-append (table_bytes t) (constants_of ts) in
    let here = offset_by (are_same t values) (4 * length t) (offset_in ts values) (length (constants_of ts)) rest in
    omega (arith, size, both, here)

-- the operands of `adc 0` and of what is after it are words
filling_words : (size len : ℕ) (is : List Instr) → AllByRecursion (λ (i : Instr). FitsSigned w32 i.operand) is
    → AllByRecursion (λ (i : Instr). FitsSigned w32 i.operand) (filling size len ++ is)
filling_words size len is words =
    elim (cases_lt len size) [
      | inl short ↦ rw (lt-ltb len size short) (number_fits 0 (omega arith), words)
      | inr long ↦ rw (le-ltb len size long) words
    ]

-- ---- pieces

module _ (ps : List Piece) (labels : ℕ) (lengths : List ℕ) (depth : ℕ) (fits : Fits (draft_code ps labels) lengths)
    (few : length (constants_of (tables_before [] ps)) ≤ MAX_CONSTANTS) where
  abbrev code : Code
  code = draft_code ps labels

  abbrev ts : List (List ℤ)
  ts = tables_before [] ps

  abbrev c : LaidCode
  c = laid_code ps labels lengths depth

  short : (number : ℕ) → offset lengths number ≤ MAX_LONG_CODE
  short number =
      let within = offset-le-sum lengths number in
      let all = fits.short in
      omega (arith, within, all)

  label_short : (l : ℕ) → c.labels l ≤ MAX_LONG_CODE
  label_short l = short (unwrap_or (get_or code.labels l None) 0)

  one : (number : ℕ) (f : Fun) (o : Operand) (rest : List Item) → drop number code.items ≡ items.Instruction f o ∷ rest
      → FitsSigned w32 (value code lengths (offset lengths (suc number)) o)
      → Fetches c.code (offset lengths number) f (value code lengths (offset lengths (suc number)) o)
      (offset lengths (suc number))
  one number f o rest is word =
      one_fetched (items_are_fetched code lengths number (items.Instruction f o) fits
      (get_from_drop code.items number (items.Instruction f o) rest is) (word, tt))

  -- the address of a table is made
  table_loaded : (number : ℕ) (values : List ℤ) (rest : List Item)
      → drop number code.items ≡ items.ConstantAddress (offset_in ts values) ∷ rest
      → LoadsTable c (offset lengths number) values (offset lengths (suc number))
  table_loaded number values rest is =
      let end = offset lengths (suc number) in
      let n = offset_in ts values in
      let far = constants_start (sum lengths) + n in
      let within = offset_within ts values in
      let before = offset-le-sum lengths (suc number) in
      let all = fits.short in
      let small : far < 2 ^ 31 = omega (arith, within, few, all) in
      let behind : end ≤ far = omega (arith, before) in
      let word : FitsSigned w32 (pos (far - end)) = number_fits (far - end) (omega (arith, small)) in
      let load = length (spelling fun.LoadConstant (pos (far - end))) in
      let others = filling_words (load_len lengths end n) load (instruction fun.Operate (pos ldpi) ∷ [])
      (number_fits ldpi (omega arith), tt) in
      let three = address_fetched c.code (offset lengths number) end lengths end n
      (items_are_fetched code lengths number (items.ConstantAddress n) fits
      (get_from_drop code.items number (items.ConstantAddress n) rest is) (word, others)) in
      record {
        distance = pos (far - end);
        word = word;
        middle = three.middle;
        last = three.last;
        loads = three.loads;
        fills = three.fills;
        points = three.points;
        reaches = address_reaches c.start end far behind small;
      }

  -- an instruction that leads to a label
  reaching : (number : ℕ) (f : Fun) (l : ℕ) (rest : List Item)
      → drop number code.items ≡ items.Instruction f (operands.DistanceTo (label l)) ∷ rest
      → Reaches c (offset lengths number) f l (offset lengths (suc number))
  reaching number f l rest is =
      let end = offset lengths (suc number) in
      record {
        operand = pos (c.labels l) -ℤ pos end;
        fetches = one number f (operands.DistanceTo (label l)) rest is
            (distance_fits end (c.labels l) (short (suc number)) (label_short l));
        reaches = distance_reaches end (c.labels l) (short (suc number)) (label_short l);
      }

  between : (number from to : ℕ) (rest : List Item) → drop number code.items ≡ distance from to ∷ rest
      → Fetches c.code (offset lengths number) fun.LoadConstant (pos (c.labels to) -ℤ pos (c.labels from))
      (offset lengths (suc number))
  between number from to rest is =
      one number fun.LoadConstant (operands.Between (label from) (label to)) rest is
      (distance_fits (c.labels from) (c.labels to) (label_short from) (label_short to))

  looping : (number head behind : ℕ) (rest : List Item)
      → drop number code.items ≡ distance head behind ∷ operation LOOP_END ∷ rest
      → LoopsBack c (offset lengths number) head behind (offset lengths (suc (suc number)))
  looping number head behind rest is = record {
    distance = pos (c.labels behind) -ℤ pos (c.labels head);
    middle = offset lengths (suc number);
    loads = between number head behind (operation LOOP_END ∷ rest) is;
    loops = one (suc number) fun.Operate (operands.Number LOOP_END) rest
        (drop_next code.items number (distance head behind) (operation LOOP_END ∷ rest) is)
        (number_fits 33 (omega arith));
    back = λ same. subst (λ (to : ℕ). target to (word_of ((2 ^ 32
        - address (pos (c.labels behind) -ℤ pos (c.labels head))) % 2 ^ 32)) ≡ c.labels head) same
        (distance_goes_back (c.labels head) (c.labels behind) (label_short head) (label_short behind));
  }

  -- the end of a piece with this number of items
  ends_at : (number count end : ℕ) (p : Piece) → end ≡ number + count
      → IsAt c (offset lengths number) p (offset lengths end)
      → IsAt c (offset lengths number) p (offset lengths (number + count))
  ends_at number count end p is at =
      subst (λ (n : ℕ). IsAt c (offset lengths number) p (offset lengths n)) is at

  piece_lies : (p : Piece) (number : ℕ) (rest : List Item) → drop number code.items ≡ items_in ts (pos depth) p ++ rest
      → StaysAt depth p → ((l : ℕ) → label_in p ≡ Some l → c.labels l ≡ offset lengths number)
      → IsAt c (offset lengths number) p (offset lengths (number + length (items_in [] (pos 0) p)))
  piece_lies (Direct f e) number rest is stays at =
      ends_at number 1 (suc number) (Direct f e) (omega arith)
      (one number f (operands.Number (operand_at (pos depth) f e)) rest is stays)
  piece_lies (Jump l) number rest is stays at =
      ends_at number 1 (suc number) (Jump l) (omega arith) (reaching number fun.Jump l rest is)
  piece_lies (JumpUnless l) number rest is stays at =
      ends_at number 1 (suc number) (JumpUnless l) (omega arith) (reaching number fun.ConditionalJump l rest is)
  piece_lies (LoopBack head behind) number rest is stays at =
      ends_at number 2 (suc (suc number)) (LoopBack head behind) (omega arith) (looping number head behind rest is)
  piece_lies (Distance from to) number rest is stays at =
      ends_at number 1 (suc number) (Distance from to) (omega arith) (between number from to rest is)
  piece_lies (StartBranch entry successor) number rest is stays at =
      ends_at number 1 (suc number) (StartBranch entry successor) (omega arith)
      (one number fun.Operate (operands.Number START_PROCESS) rest is (number_fits 13 (omega arith)))
  piece_lies (Select targets) number rest is stays at =
      ends_at number 1 (suc number) (Select targets) (omega arith)
      (one number fun.Operate (operands.Number ALTERNATION_END) rest is (number_fits 69 (omega arith)))
  piece_lies (TableAddress values) number rest is stays at =
      ends_at number 1 (suc number) (TableAddress values) (omega arith) (table_loaded number values rest is)
  piece_lies (Row l entries) number rest is stays at =
      ends_at number 0 number (Row l entries) (omega arith) (refl, at l refl)
  piece_lies (Place l) number rest is stays at =
      ends_at number 0 number (Place l) (omega arith) (refl, at l refl)
  piece_lies (Within workspace) number rest is stays at =
      ends_at number 0 number (Within workspace) (omega arith) (refl, stays)
  piece_lies (Par par) number rest is stays at = ends_at number 0 number (Par par) (omega arith) refl

  module _ (once : LabelsArePlacedOnce ps labels) where
    -- a label is where the piece is that places it
    pub label_is : (done : List Piece) (p : Piece) (later : List Piece) (l : ℕ) → ps ≡ done ++ p ∷ later
        → label_in p ≡ Some l → c.labels l ≡ offset lengths (item_count done)
    label_is done p later l whole is =
        let placed = placed_from 0 ps in
        let made : l < labels =
        is_made labels l done p later is
        (subst (λ (qs : List Piece). AllByRecursion (λ l. l < labels) (labels_in qs)) whole once.made) in
        let number : number_at l placed ≡ item_count done =
        ap (λ (qs : List Piece). number_at l (placed_from 0 qs)) whole
        ∙ placed_after l 0 done p later is (subst (λ (qs : List Piece). AllDiffer (labels_in qs)) whole once.once)
        ∙ zero-add (item_count done) in
        ap (λ (o : Option ℕ). offset lengths (unwrap_or o 0))
        (places_at labels placed (Some (length code.items) ∷ []) l made)
        ∙ ap (λ (n : ℕ). offset lengths n) number

    lies : (done part rest : List Piece) (workspace : Workspace) → ps ≡ done ++ (part ++ rest)
        → drop (item_count done) code.items ≡ items_from workspace ts (part ++ rest)
        → workspace.depth ≡ pos depth → AllByRecursion (StaysAt depth) part
        → Lie c (offset lengths (item_count done)) part (offset lengths (item_count done + item_count part))
    lies done [] rest workspace whole is here stays =
        subst (λ (n : ℕ). Lie c (offset lengths (item_count done)) [] (offset lengths n))
        (sym (add-zero (item_count done))) laid.none
    lies done (p ∷ part) rest workspace whole is here stays =
        let number = item_count done in
        let size = length (items_in [] (pos 0) p) in
        let others = items_from (workspace_behind p workspace) ts (part ++ rest) in
        let now : drop number code.items ≡ items_in ts (pos depth) p ++ others =
        subst (λ (d : ℤ). drop number code.items ≡ items_in ts d p ++ others) here is in
        let later : drop (number + size) code.items ≡ others =
        subst (λ (n : ℕ). drop (number + n) code.items ≡ others) (count_is ts (pos depth) p)
        (drop_more code.items (items_in ts (pos depth) p) others number now) in
        let both = item_count-append done (p ∷ []) in
        let counted : number + size ≡ item_count (done ++ p ∷ []) = omega (arith, both) in
        let next : Lie c (offset lengths (item_count (done ++ p ∷ []))) part
        (offset lengths (item_count (done ++ p ∷ []) + item_count part)) =
        lies (done ++ p ∷ []) part rest (workspace_behind p workspace)
        (whole ∙ sym (append_assoc done (p ∷ []) (part ++ rest)))
        (subst (λ (n : ℕ). drop n code.items ≡ others) counted later)
        (depth_stays depth p workspace here stays.0) stays.1 in
        let further : Lie c (offset lengths (number + size)) part (offset lengths (number + size + item_count part)) =
        subst (λ (n : ℕ). Lie c (offset lengths n) part (offset lengths (n + item_count part))) (sym counted) next in
        let sum_is : number + size + item_count part ≡ number + (size + item_count part) = omega arith in
        laid.more
        (piece_lies p number others now stays.0 (λ l placed. label_is done p (part ++ rest) l whole placed))
        (subst (λ (n : ℕ). Lie c (offset lengths (number + size)) part (offset lengths n)) sum_is further)

pub pieces_lie : PiecesLie
pieces_lie ps labels links bytes says before part depth once is =
    let lengths = says.arrangement.lengths in
    let whole : ps ≡ before ++ (part ++ is.rest) = is.whole ∙ append_assoc before part is.rest in
    let ts = tables_before [] ps in
    let there : drop (item_count before) (items_from in_root ts ps)
    ≡ items_from (workspace_after before in_root) ts (part ++ is.rest) =
    ap (λ (qs : List Piece). drop (item_count before) (items_from in_root ts qs)) whole
    ∙ items_after ts in_root before (part ++ is.rest) in
    subst (λ (n : ℕ). Lie (laid_code ps labels lengths depth) (offset lengths (item_count before)) part
    (offset lengths n)) (sym (item_count-append before part))
    (lies ps labels lengths depth says.arranged.least.fits says.format.keeps.sizes.constants_limit once before part
    is.rest (workspace_after before in_root) whole there is.workspace is.stays)
