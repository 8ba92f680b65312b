-- A starter has its frame, and holds what its scope has left after one start more.
use Rattle.std.proofs.Common.{◌≡◌, ℕ, ◌+◌, ◌<◌, ◌&&◌, ◌||◌, not, Bool, true, false, inl, inr, ℤ, List, [], ◌∷◌, length}
use Rattle.std.proofs.Common.{map, Option, Some, refl, sym, ap, ap₂, ◌∙◌, subst, arith}
use Rattle.std.specs.List.{list_any}
use Rattle.std.proofs.lemmas.Bool.{and_from, and_parts, false_from_ne_true, or_parts, not-true, not_from_false}
use Rattle.module_format.specs.declared.rows.Direction.{Direction}
use Rattle.module_format.specs.declared.rows.EndKind.{EndKind}
use Rattle.module_format.specs.declared.rows.EndRow.{EndRow}
use Rattle.module_format.specs.declared.rows.Parameter.{Parameter}
use Rattle.module_format.specs.declared.rows.ParameterKind.{ParameterKind}
use Rattle.module_format.specs.declared.rows.ParameterKind.TheVariants.{WrittenRegion}
use Rattle.module_format.specs.Contents.{Contents, Branch}
use Rattle.module_format.specs.Pars.{key_of}
use Rattle.certificate.specs.Rights as rights
use Rattle.certificate.specs.Rights.{is_among, is_same_end}
use Rattle.machine_state.specs.declared.holding.End.{End}
use Rattle.machine_state.specs.Holding.{Holding, may_write, may_read, has_end}
use Rattle.machine_state.specs.JoinLookups.{Found}
use Rattle.machine_state.specs.Memory.{Memory, place_of}
use Rattle.machine_state.specs.Ownership.{IsAmong, to_write, to_read}
use Rattle.machine_state.specs.Spans.{Share, less, writes_place, reads_place, is_among_ends}
use Rattle.machine_state.specs.World.{constants_start}
use Rattle.machine_state.proofs.Among.{filter_keeps}
use Rattle.machine_state.proofs.Shares.{left_claims, end_among, end_held}
use Rattle.rulings.specs.Lends.{IsRegionKind}
use Rattle.rulings.specs.Meaning.{Layout, HasFrame, words_left}
use Rattle.rulings.specs.Reach as reach
use Rattle.rulings.specs.Regions.{Scope, scope_left, IsByteOf, IsHeldRegion, IsNamed, HoldsNamed, IsWrittenAt}
use Rattle.rulings.specs.Regions.{IsNamedAt}
use Rattle.rulings.specs.Regions.{HasConstants, channel_address}
use Rattle.rulings.specs.Remaining.{some_started, is_hidden, word_given_to_write, word_given_to_read, end_given}
use Rattle.rulings.specs.Remaining.{is_own_end}
use Rattle.rulings.proofs.Combining.{readable_byte}
use Rattle.rulings.proofs.Regions.{bytes_read, bytes_written}
use Rattle.share_laws.specs.Shares.{end_at, share_at}
use Rattle.share_laws.specs.Starts.{CanStart, held_by_starter, StartersHoldTheRest}
use Rattle.share_laws.proofs.RowEnds.{end_listed, listed_among}
use Rattle.share_laws.proofs.LeftBytes.{byte_of, none_of, word_of_bytes, word_to_read}
use Rattle.share_laws.proofs.LeftBytes.{less_written, less_read, less_inside, left_readable, region_to_read, share}
use Rattle.share_laws.proofs.LeftBytes.{of_words, to_write_left, to_read_left, listed_word, written_held, HasByte}
use Rattle.share_laws.proofs.LeftBytes.{written_by_number, read_by_number}
use Rattle.share_laws.proofs.LeftParameters.{one_more, Remains, still_written, still_read, nothing_left, still_channels}
use Rattle.share_laws.proofs.LeftParameters.{kept}

-- ---- what remains of a parameter

-- what is written of what remains was written
remains_written : {found : Found} {j : ℕ} {mine theirs : ParameterKind} (start place : ℕ)
    → Remains found j mine theirs → IsWrittenAt mine start place → IsWrittenAt theirs start place
remains_written start place (still_written size lo hi w r mine theirs) at =
    subst (λ (k : ParameterKind). IsWrittenAt k start place) (sym theirs)
    (subst (λ (k : ParameterKind). IsWrittenAt k start place) mine at)
remains_written start place (still_read size lo hi w mine theirs) at =
    absurd (subst (λ (k : ParameterKind). IsWrittenAt k start place) mine at)
remains_written start place (nothing_left lo hi mine) at =
    absurd (subst (λ (k : ParameterKind). IsWrittenAt k start place) mine at)
remains_written start place (still_channels count len ends mine theirs) at =
    absurd (subst (λ (k : ParameterKind). IsWrittenAt k start place) mine at)

-- what is named was named
remains_named : {found : Found} {j : ℕ} {mine theirs : ParameterKind} (start place : ℕ)
    → Remains found j mine theirs → IsNamedAt mine start place → IsNamedAt theirs start place
remains_named start place (still_written size lo hi w r mine theirs) at =
    subst (λ (k : ParameterKind). IsNamedAt k start place) (sym theirs)
    (subst (λ (k : ParameterKind). IsNamedAt k start place) mine at)
remains_named start place (still_read size lo hi w mine (inl theirs)) at =
    subst (λ (k : ParameterKind). IsNamedAt k start place) (sym theirs)
    (subst (λ (k : ParameterKind). IsNamedAt k start place) mine at)
remains_named start place (still_read size lo hi w mine (inr theirs)) at =
    subst (λ (k : ParameterKind). IsNamedAt k start place) (sym theirs)
    (subst (λ (k : ParameterKind). IsNamedAt k start place) mine at)
remains_named start place (nothing_left lo hi mine) at =
    absurd (subst (λ (k : ParameterKind). IsNamedAt k start place) mine at)
remains_named start place (still_channels count len ends mine theirs) at =
    absurd (subst (λ (k : ParameterKind). IsNamedAt k start place) mine at)

-- ---- tests

-- neither of two is true
neither : (a b : Bool) → not (a || b) ≡ true → (a ≡ false) × (b ≡ false)
neither true b h = absurd (cc)
neither false true h = absurd (cc)
neither false false h = (refl, refl)

module _ (m : Contents) (found : Found) (layout : Layout) (base : ℕ) (addresses : List (Option ℕ))
    (h : Holding) (memory : Memory) (depth : ℤ) (workspace : ℕ)
    (s : CanStart m found layout base addresses h memory depth workspace) where
  abbrev mine : Holding
  mine = held_by_starter m found base addresses h (length memory)

  abbrev before : Scope
  before = scope_left m found.par found.par.context found.number layout

  abbrev after : Scope
  after = scope_left m found.par found.par.context (found.number + 1) layout

  abbrev gift : Share
  gift = share m found layout base addresses h memory depth workspace s

  -- what is given after the start was given before, or is by this branch
  given : (test : Branch → Bool) → some_started found.par (found.number + 1) test
      ≡ (some_started found.par found.number test || test found.branch)
  given test = one_more found.par found.number found.branch test s.is.branch

  -- ---- words

  -- a word that is left to write after the start: it was before, and is not among those of the branch
  record IsLeftWord (k : ℤ) : Type 0 where
    before_it : before.words.writes k ≡ true
    not_written : is_among found.branch.writes k ≡ false
    not_read : is_among found.branch.reads k ≡ false

  -- a word that is left to write after the start
  left_word : (k : ℤ) → after.words.writes k ≡ true → IsLeftWord k
  left_word k t =
      let a = and_parts (rights.may_write_word m found.par.context k && not (is_hidden found.par k)) _ t in
      let b = neither (word_given_to_write found.par (found.number + 1) k)
      (word_given_to_read found.par (found.number + 1) k) a.1 in
      let w = or_parts (word_given_to_write found.par found.number k) (is_among found.branch.writes k)
      (sym (given (λ b. is_among b.writes k)) ∙ b.0) in
      let r = or_parts (word_given_to_read found.par found.number k) (is_among found.branch.reads k)
      (sym (given (λ b. is_among b.reads k)) ∙ b.1) in
      record {
        before_it = and_from _ _ a.0 (none_of (word_given_to_write found.par found.number k)
            (word_given_to_read found.par found.number k) w.0 r.0);
        not_written = w.1;
        not_read = r.1;
      }

  record IsLeftToRead (k : ℤ) : Type 0 where
    before_it : before.words.reads k ≡ true
    not_written : is_among found.branch.writes k ≡ false

  -- one that is left to read: it was before, and the branch has not to write it
  left_to_read : (k : ℤ) → after.words.reads k ≡ true → IsLeftToRead k
  left_to_read k t =
      let a = and_parts (rights.may_read_word m found.par.context k && not (is_hidden found.par k)) _ t in
      let w = or_parts (word_given_to_write found.par found.number k) (is_among found.branch.writes k)
      (sym (given (λ b. is_among b.writes k)) ∙ not-true _ a.1) in
      record { before_it = and_from _ _ a.0 (not_from_false _ w.0); not_written = w.1 }

  -- a byte of a word that the branch has not to write is none of its share's
  word_unwritten : (k : ℤ) (x : ℕ) → before.words.reads k ≡ true → is_among found.branch.writes k ≡ false
      → IsByteOf layout.origin k x → writes_place gift x ≡ false
  word_unwritten k x counts free b = false_from_ne_true (writes_place gift x) (λ w.
      let among = listed_word m found layout base addresses h memory depth workspace s
      (to_write_left m found layout base addresses h memory depth workspace s) k x counts b
      ((of_words m found layout base addresses h memory depth workspace s).written x w) in
      let no' : false ≡ true = sym free ∙ among in cc)

  -- nor one that it has not to read
  word_unread : (k : ℤ) (x : ℕ) → before.words.reads k ≡ true → is_among found.branch.reads k ≡ false
      → IsByteOf layout.origin k x → reads_place gift x ≡ false
  word_unread k x counts free b = false_from_ne_true (reads_place gift x) (λ w.
      let among = listed_word m found layout base addresses h memory depth workspace s
      (to_read_left m found layout base addresses h memory depth workspace s) k x counts b
      ((of_words m found layout base addresses h memory depth workspace s).read x w) in
      let no' : false ≡ true = sym free ∙ among in cc)

  -- the starter has its frame
  starter_frame : HasFrame mine (length memory) (words_left m found.par found.par.context (found.number + 1))
      layout.origin depth workspace
  starter_frame = record {
    small = s.frame.small;
    from_start = s.frame.from_start;
    to_end = s.frame.to_end;
    own = λ k t.
        let l = left_word k t in
        let w = s.frame.own k l.before_it in
        let counts = left_readable m found.par found.par.context found.number k l.before_it in
        record {
          place = w.place;
          is = w.is;
          inside = w.inside;
          mine = word_of_bytes mine w.place (λ i low. less_written (length memory) h gift (w.place + i)
              (let inside = w.inside in omega arith) (bytes_written h w.place w.mine i low)
              (word_unwritten k (w.place + i) counts l.not_written (byte_of layout.origin k w.place i w.is low))
              (word_unread k (w.place + i) counts l.not_read (byte_of layout.origin k w.place i w.is low)));
        };
    readable = λ k t.
        let l = left_to_read k t in
        let w = s.frame.readable k l.before_it in
        record {
          place = w.place;
          is = w.is;
          inside = w.inside;
          readable = word_to_read mine w.place (λ i low. less_read (length memory) h gift (w.place + i)
              (let inside = w.inside in omega arith) (bytes_read h w.place w.readable i low)
              (word_unwritten k (w.place + i) l.before_it l.not_written (byte_of layout.origin k w.place i w.is low)));
        };
    start = s.frame.start;
  }

  -- ---- what parameters name

  -- a byte of a region that the starter had
  abbrev has_byte : (j : ℕ) (q : Parameter) (size i : ℕ) (lo hi : ℤ) → before.parameters j ≡ Some q
      → IsRegionKind q.kind size lo hi → i < size
      → HasByte m found layout base addresses h memory depth workspace s j q (place_of (layout.starts j) + i)
  has_byte j q size i lo hi there kind low = record {
    size = size;
    lo = lo;
    hi = hi;
    found_there = there;
    kind = kind;
    i = i;
    at = refl;
    low = low;
  }

  -- a byte of a region that the branch has not to write is none of its share's
  region_unwritten : (j : ℕ) (q : Parameter) (size i : ℕ) (lo hi : ℤ) → before.parameters j ≡ Some q
      → IsRegionKind q.kind size lo hi → i < size → reach.is_listed found.branch.written_parameters j ≡ false
      → writes_place gift (place_of (layout.starts j) + i) ≡ false
  region_unwritten j q size i lo hi there kind low free = false_from_ne_true _ (λ w.
      let listed = written_by_number m found layout base addresses h memory depth workspace s j q
      (place_of (layout.starts j) + i) (has_byte j q size i lo hi there kind low) w in
      let no' : false ≡ true = sym free ∙ listed in cc)

  -- nor one of a region that it has not to read
  region_unread : (j : ℕ) (q : Parameter) (size i : ℕ) (lo hi : ℤ) → before.parameters j ≡ Some q
      → q.kind ≡ WrittenRegion size lo hi → i < size → reach.is_listed found.branch.read_parameters j ≡ false
      → reads_place gift (place_of (layout.starts j) + i) ≡ false
  region_unread j q size i lo hi there kind low free = false_from_ne_true _ (λ w.
      let listed = read_by_number m found layout base addresses h memory depth workspace s j q
      (place_of (layout.starts j) + i) (has_byte j q size i lo hi there (inr kind) low) kind w in
      let no' : false ≡ true = sym free ∙ listed in cc)

  -- it holds what each parameter names that is left
  starter_each : (j : ℕ) (p : Parameter) → after.parameters j ≡ Some p
      → IsNamed m mine after memory p.kind (layout.starts j)
  starter_each j p there =
      let t = kept m found layout s.is j p there in
      on t.theirs t.found_there t.remains (s.named.each j t.theirs t.found_there)
    where
      on : (q : Parameter) → before.parameters j ≡ Some q → Remains found j p.kind q.kind
          → IsNamed m h before memory q.kind (layout.starts j) → IsNamed m mine after memory p.kind (layout.starts j)
      on q here (still_written size lo hi w r kind is) named =
          let r' : IsHeldRegion m (may_write h) before memory (place_of (layout.starts j)) size lo hi =
          subst (λ (k : ParameterKind). IsNamed m h before memory k (layout.starts j)) is named in
          let region : IsHeldRegion m (may_write mine) after memory (place_of (layout.starts j)) size lo hi = record {
            aligned = r'.aligned;
            whole = r'.whole;
            held = λ i low. less_written (length memory) h gift (place_of (layout.starts j) + i)
                (s.inside (place_of (layout.starts j) + i)
                (readable_byte h (place_of (layout.starts j) + i) (r'.held i low))) (r'.held i low)
                (region_unwritten j q size i lo hi here (inr is) low w)
                (region_unread j q size i lo hi here is low r);
            beside = λ k i t low b. r'.beside k i (left_to_read k t).before_it low b;
            numbers = r'.numbers;
          } in
          subst (λ (k : ParameterKind). IsNamed m mine after memory k (layout.starts j)) (sym kind) region
      on q here (still_read size lo hi w kind is) named =
          let r' = region_to_read m h before memory q.kind (layout.starts j) size lo hi is named in
          let region : IsHeldRegion m (may_read mine) after memory (place_of (layout.starts j)) size lo hi = record {
            aligned = r'.aligned;
            whole = r'.whole;
            held = λ i low. less_read (length memory) h gift (place_of (layout.starts j) + i)
                (s.inside (place_of (layout.starts j) + i) (r'.held i low)) (r'.held i low)
                (region_unwritten j q size i lo hi here is low w);
            beside = λ k i t low b. r'.beside k i (left_to_read k t).before_it low b;
            numbers = r'.numbers;
          } in
          subst (λ (k : ParameterKind). IsNamed m mine after memory k (layout.starts j)) (sym kind) region
      on q here (nothing_left lo hi kind) named =
          subst (λ (k : ParameterKind). IsNamed m mine after memory k (layout.starts j)) (sym kind) tt
      on q here (still_channels count len ends kind is) named =
          subst (λ (k : ParameterKind). IsNamed m mine after memory k (layout.starts j)) (sym kind)
          (subst (λ (k : ParameterKind). IsNamed m h before memory k (layout.starts j)) is named)

  -- regions are apart as before
  starter_apart : (j k : ℕ) (p q : Parameter) → after.parameters j ≡ Some p → after.parameters k ≡ Some q
      → (j ≡ k → ⊥) → (place : ℕ) → IsWrittenAt p.kind (layout.starts j) place
      → IsNamedAt q.kind (layout.starts k) place → ⊥
  starter_apart j k p q here there differ place written named =
      let a = kept m found layout s.is j p here in
      let b = kept m found layout s.is k q there in
      s.named.apart j k a.theirs b.theirs a.found_there b.found_there differ place
      (remains_written (layout.starts j) place a.remains written) (remains_named (layout.starts k) place b.remains
      named)

  -- ---- constants

  -- the constants are there
  starter_constants : HasConstants m mine memory
  starter_constants = record {
    readable = λ i low. less_read (length memory) h gift (constants_start m + i)
        (s.inside (constants_start m + i) (s.named.constants.readable i low)) (s.named.constants.readable i low)
        (false_from_ne_true _ (λ w.
        let low_data = s.named.constants.behind (constants_start m + i)
        (written_held m found layout base addresses h memory depth workspace s (constants_start m + i) w) in
        omega (arith, low_data)));
    bytes = s.named.constants.bytes;
    behind = λ place own. s.named.constants.behind place
        (left_claims (length memory) h gift (to_write place) own);
  }

  -- ---- ends

  -- an end that is left after the start: it was before, and is none of the branch
  record IsLeftEnd (kind : EndKind) (direction : Direction) : Type 0 where
    before_it : before.ends kind direction ≡ true
    not_given : IsAmong (record { kind = kind; direction = direction }) found.branch.ends → ⊥

  -- each end that is left is one
  left_end : (kind : EndKind) (direction : Direction) → after.ends kind direction ≡ true → IsLeftEnd kind direction
  left_end kind direction t =
      let e : EndRow = record { kind = kind; direction = direction } in
      let a = and_parts (rights.has_end m found.par.context e || is_own_end found.par kind) _ t in
      let g = or_parts (end_given found.par found.number e) _
      (sym (given (λ b. list_any (λ other. is_same_end (key_of other) (key_of e)) b.ends)) ∙ not-true _ a.1) in
      record {
        before_it = and_from _ _ a.0 (not_from_false _ g.0);
        not_given = λ among. let no' : false ≡ true = sym g.1 ∙ end_listed found.branch.ends e among in cc;
      }

  -- the ends that are left are held
  starter_ends : (kind : EndKind) (direction : Direction) → after.ends kind direction ≡ true
      → has_end mine (record { address = channel_address layout kind; direction = direction }) ≡ true
  unfolding less
  starter_ends kind direction t =
      let l = left_end kind direction t in
      let e : End = record { address = channel_address layout kind; direction = direction } in
      end_held mine e (filter_keeps (λ end. not (is_among_ends gift.ends end)) h.ends e
      (end_among h e (s.named.ends kind direction l.before_it))
      (not_from_false _ (false_from_ne_true _ (λ listed. l.not_given (of_share kind direction l.before_it
      (subst (λ (xs : List End). IsAmong e xs)
      (of_words m found layout base addresses h memory depth workspace s).ends (listed_among gift.ends e listed)))))))
    where
      -- an end with the address and the direction of one of the branch is that one
      of_share : (kind : EndKind) (direction : Direction) → before.ends kind direction ≡ true
          → IsAmong (record { address = channel_address layout kind; direction = direction })
          (map (end_at layout) found.branch.ends)
          → IsAmong (record { kind = kind; direction = direction }) found.branch.ends
      of_share kind direction was among = on found.branch.ends (λ x there. s.left.ends x there) among
        where
          on : (es : List EndRow) → ((x : EndRow) → IsAmong x es → before.ends x.kind x.direction ≡ true)
              → IsAmong (record { address = channel_address layout kind; direction = direction })
              (map (end_at layout) es) → IsAmong (record { kind = kind; direction = direction }) es
          on [] all among = among
          on (x ∷ es) all (inl here) =
              let address : channel_address layout x.kind ≡ channel_address layout kind =
              ap (λ (e : End). e.address) here in
              let same : x.direction ≡ direction = ap (λ (e : End). e.direction) here in
              let kinds : x.kind ≡ kind = s.named.differ x.kind kind direction
              (subst (λ (d : Direction). before.ends x.kind d ≡ true) same (all x (inl refl))) was address in
              inl (ap₂ (λ (k : EndKind) (d : Direction). let e : EndRow = record { kind = k; direction = d } in e)
              kinds same)
          on (x ∷ es) all (inr there) = inr (on es (λ y later. all y (inr later)) there)

  -- so all that is left is held
  starter_named : HoldsNamed m mine after memory
  starter_named = record {
    each = starter_each;
    apart = starter_apart;
    constants = starter_constants;
    bytes = record {
      each = λ place b own found. s.named.bytes.each place b (left_claims (length memory) h gift (to_read place) own)
          found;
    };
    even = s.named.even;
    ends = starter_ends;
    back = s.named.back;
    lengths = λ kind direction t. s.named.lengths kind direction (left_end kind direction t).before_it;
    differ = λ a b direction t u same. s.named.differ a b direction (left_end a direction t).before_it
        (left_end b direction u).before_it same;
  }

-- the frame and what is left, in memory
pub starters_hold_the_rest : StartersHoldTheRest
starters_hold_the_rest m found layout base addresses h memory depth workspace s = record {
  frame = starter_frame m found layout base addresses h memory depth workspace s;
  named = starter_named m found layout base addresses h memory depth workspace s;
  inside = λ x own. less_inside (length memory) h (share_at m found base addresses) x own;
}
