-- What is known after a process for all links and listeners is known of each leaf of its tree: any bytes can come, and
-- something can listen on any link.
use Rattle.std.proofs.Common.{◌≡◌, ℕ, zero, suc, Bool, true, false, cond, List, [], ◌∷◌, ◌++◌, length, take, drop}
use Rattle.std.proofs.Common.{Option, refl, sym, ap, subst, ◌∙◌, arith}
use Rattle.std.proofs.lemmas.Bool.{le-leb}
use Rattle.std.proofs.lemmas.List.{length-append}
use Rattle.std.proofs.Math.Seq.{drop-append_seam, take-append_seam}
use Rattle.std.specs.Prelude.{nat_le, unwrap_or}
use Rattle.scalar_ranges.specs.Entries.{Entry}
use Rattle.scalar_ranges.specs.Environments.{Environment, item_at}
use Rattle.occam_parser.specs.Blocks.{Process}
use Rattle.program_meaning.specs.Links.{Port, Incoming, Links, message_length, with_item, read_on}
use Rattle.program_meaning.specs.Links.{after_reading, after_writing, nothing_came}
use Rattle.program_meaning.specs.Running.{Outcome, Waits, run}
use Rattle.program_meaning.specs.GoingWell.{IsTrueIn, IsWell}
use Rattle.program_meaning.specs.Doing.{Doing, Leaves, Halts, Fails, Asks, Sends, doing, over_links, AllWell}
use Rattle.program_meaning.specs.LeavesAreTrue.{LeavesAreTrue}
use Rattle.program_meaning.proofs.DoingIsRunning.{doing_is_running}

-- ---- what has not been read

-- the bytes of the link with this number that have not been read
abbrev unread_at : ℕ → List Incoming → List ℕ
unread_at i is = (unwrap_or (item_at i is) nothing_came).unread

-- On each link the same bytes have not been read.
abbrev SameUnread : List Incoming → List Incoming → Type 0
SameUnread is js = (i : ℕ) → unread_at i is ≡ unread_at i js

-- what is left of the bytes of link i, where so many of link j are read
abbrev left_at : (i j count : ℕ) → List ℕ → List ℕ
left_at zero zero count bytes = drop count bytes
left_at zero (suc j) count bytes = bytes
left_at (suc i) zero count bytes = bytes
left_at (suc i) (suc j) count bytes = left_at i j count bytes

drop_nothing : (count : ℕ) → drop {A = ℕ} count [] ≡ []
drop_nothing zero = refl
drop_nothing (suc count) = refl

left_nothing : (i j count : ℕ) → left_at i j count [] ≡ []
left_nothing zero zero count = drop_nothing count
left_nothing zero (suc j) count = refl
left_nothing (suc i) zero count = refl
left_nothing (suc i) (suc j) count = left_nothing i j count

-- Reading drops bytes of its own link alone.
reading_leaves : (i j count : ℕ) (is : List Incoming)
    → unread_at i (with_item (read_on count) j is) ≡ left_at i j count (unread_at i is)
reading_leaves i j count [] = sym (left_nothing i j count)
reading_leaves zero zero count (x ∷ is) = refl
reading_leaves zero (suc j) count (x ∷ is) = refl
reading_leaves (suc i) zero count (x ∷ is) = refl
reading_leaves (suc i) (suc j) count (x ∷ is) = reading_leaves i j count is

reading_same : (j count : ℕ) (is js : List Incoming) → SameUnread is js
    → SameUnread (with_item (read_on count) j is) (with_item (read_on count) j js)
reading_same j count is js same i =
    reading_leaves i j count is ∙ ap (left_at i j count) (same i) ∙ sym (reading_leaves i j count js)

-- ---- bytes that come

-- these bytes come first on a link
abbrev fed : ℕ → List ℕ → List Incoming → List Incoming
fed zero bytes [] = record { read = []; unread = bytes ++ [] } ∷ []
fed zero bytes (x ∷ is) = record { read = x.read; unread = bytes ++ x.unread } ∷ is
fed (suc j) bytes [] = nothing_came ∷ fed j bytes []
fed (suc j) bytes (x ∷ is) = x ∷ fed j bytes is

fed_at : (j : ℕ) (bytes : List ℕ) (is : List Incoming) → unread_at j (fed j bytes is) ≡ bytes ++ unread_at j is
fed_at zero bytes [] = refl
fed_at zero bytes (x ∷ is) = refl
fed_at (suc j) bytes [] = fed_at j bytes []
fed_at (suc j) bytes (x ∷ is) = fed_at j bytes is

-- Where these bytes are read again, what is left is what was there.
read_again : (j : ℕ) (bytes : List ℕ) (is : List Incoming)
    → SameUnread (with_item (read_on (length bytes)) j (fed j bytes is)) is
read_again zero bytes [] zero = drop-append_seam bytes []
read_again zero bytes [] (suc i) = refl
read_again zero bytes (x ∷ is) zero = drop-append_seam bytes x.unread
read_again zero bytes (x ∷ is) (suc i) = refl
read_again (suc j) bytes [] zero = refl
read_again (suc j) bytes [] (suc i) = read_again j bytes [] i
read_again (suc j) bytes (x ∷ is) zero = refl
read_again (suc j) bytes (x ∷ is) (suc i) = read_again j bytes is i

enough : (bytes u : List ℕ) → nat_le (length bytes) (length (bytes ++ u)) ≡ true
enough bytes u =
    le-leb (length bytes) (length (bytes ++ u)) (let more = length-append bytes u in omega (arith, more))

-- ---- who listens

abbrev hears : ℕ → List Bool → Bool
hears i listens = unwrap_or (item_at i listens) false

-- Something listens on this link too.
abbrev heard : ℕ → List Bool → List Bool
heard zero [] = true ∷ []
heard zero (b ∷ bs) = true ∷ bs
heard (suc j) [] = false ∷ heard j []
heard (suc j) (b ∷ bs) = b ∷ heard j bs

heard_at : (j : ℕ) (listens : List Bool) → hears j (heard j listens) ≡ true
heard_at zero [] = refl
heard_at zero (b ∷ bs) = refl
heard_at (suc j) [] = heard_at j []
heard_at (suc j) (b ∷ bs) = heard_at j bs

-- Whoever is heard on some links is heard on more.
abbrev HearsMore : List Bool → List Bool → Type 0
HearsMore fewer more = (i : ℕ) → hears i fewer ≡ true → hears i more ≡ true

heard_more : (j : ℕ) (listens : List Bool) → HearsMore listens (heard j listens)
heard_more zero [] i is = absurd (cc is)
heard_more zero (b ∷ bs) zero is = refl
heard_more zero (b ∷ bs) (suc i) is = is
heard_more (suc j) [] i is = absurd (cc is)
heard_more (suc j) (b ∷ bs) zero is = is
heard_more (suc j) (b ∷ bs) (suc i) is = heard_more j bs i is

-- ---- what does not matter

module _ (es : List Entry) where
  -- If one of two ways is taken, and one that waits is well, it is enough that the other is well where it is taken.
  by_hearing : (fewer more : Bool) (o p : Outcome) (l m : Links) → (fewer ≡ true → more ≡ true)
      → (IsWell o es → IsWell p es) → IsWell (cond more o (Waits l)) es → IsWell (cond fewer p (Waits m)) es
  by_hearing false more o p l m is goes well = tt
  by_hearing true true o p l m is goes well = goes well
  by_hearing true false o p l m is goes well = absurd (cc (is refl))

  by_test : (b : Bool) (o p : Outcome) (l m : Links) → (IsWell o es → IsWell p es)
      → IsWell (cond b o (Waits l)) es → IsWell (cond b p (Waits m)) es
  by_test true o p l m goes well = goes well
  by_test false o p l m goes well = tt

  -- What was read and written does not matter, and where fewer listen, less happens.
  fewer_well : (t : Doing) (fewer more : List Bool) (l m : Links) → HearsMore fewer more
      → SameUnread l.incoming m.incoming → IsWell (over_links more t l) es → IsWell (over_links fewer t m) es
  fewer_well (Leaves env) fewer more l m hears same well = well
  fewer_well Halts fewer more l m hears same well = tt
  fewer_well Fails fewer more l m hears same well = well
  fewer_well (Asks port next) fewer more l m hears same well =
      let count = message_length port.carries in
      let whole : IsWell (cond (nat_le count (length (unread_at port.link m.incoming)))
      (over_links more (next (take count (unread_at port.link m.incoming))) (after_reading port.link count l))
      (Waits (after_reading port.link (length (unread_at port.link m.incoming)) l))) es =
      subst (λ u. IsWell (cond (nat_le count (length u))
      (over_links more (next (take count u)) (after_reading port.link count l))
      (Waits (after_reading port.link (length u) l))) es) (same port.link) well in
      by_test (nat_le count (length (unread_at port.link m.incoming))) _ _ _ _
      (fewer_well (next (take count (unread_at port.link m.incoming))) fewer more (after_reading port.link count l)
      (after_reading port.link count m) hears (reading_same port.link count l.incoming m.incoming same)) whole
  fewer_well (Sends port message next) fewer more l m hears same well =
      by_hearing (unwrap_or (item_at port.link fewer) false) (unwrap_or (item_at port.link more) false) _ _ _ _
      (hears port.link)
      (fewer_well next fewer more (after_writing port.link message l) (after_writing port.link message m) hears same)
      well

  abbrev WellOverAll : Doing → Type 0
  WellOverAll t = (listens : List Bool) (l : Links) → IsWell (over_links listens t l) es

  taken : (b : Bool) (o p : Outcome) → b ≡ true → IsWell (cond b o p) es → IsWell o es
  taken true o p is well = well
  taken false o p is well = absurd (cc is)

  all_hear : (listens : List Bool) → HearsMore listens listens
  all_hear listens i is = is

  after_bytes : (port : Port) (next : List ℕ → Doing) (bytes : List ℕ)
      → length bytes ≡ message_length port.carries → WellOverAll (Asks port next) → WellOverAll (next bytes)
  after_bytes port next bytes is well listens l =
      let before : Links = record { incoming = fed port.link bytes l.incoming; written = l.written } in
      let unread = fed_at port.link bytes l.incoming in
      let came : IsWell (cond (nat_le (length bytes) (length (bytes ++ unread_at port.link l.incoming)))
      (over_links listens (next (take (length bytes) (bytes ++ unread_at port.link l.incoming)))
      (after_reading port.link (length bytes) before))
      (Waits (after_reading port.link (length (bytes ++ unread_at port.link l.incoming)) before))) es =
      subst (λ count. IsWell (cond (nat_le count (length (bytes ++ unread_at port.link l.incoming)))
      (over_links listens (next (take count (bytes ++ unread_at port.link l.incoming)))
      (after_reading port.link count before))
      (Waits (after_reading port.link (length (bytes ++ unread_at port.link l.incoming)) before))) es) (sym is)
      (subst (λ u. IsWell (cond (nat_le (message_length port.carries) (length u))
      (over_links listens (next (take (message_length port.carries) u))
      (after_reading port.link (message_length port.carries) before))
      (Waits (after_reading port.link (length u) before))) es) unread (well listens before)) in
      let now = taken _ _ _ (enough bytes (unread_at port.link l.incoming)) came in
      fewer_well (next bytes) listens listens (after_reading port.link (length bytes) before) l (all_hear listens)
      (read_again port.link bytes l.incoming)
      (subst (λ xs. IsWell (over_links listens (next xs) (after_reading port.link (length bytes) before)) es)
      (take-append_seam bytes (unread_at port.link l.incoming)) now)

  after_message : (port : Port) (message : List ℕ) (next : Doing) → WellOverAll (Sends port message next)
      → WellOverAll next
  after_message port message next well listens l =
      let now = taken _ _ _ (heard_at port.link listens) (well (heard port.link listens) l) in
      fewer_well next listens (heard port.link listens) (after_writing port.link message l) l
      (heard_more port.link listens) (λ i. refl) now

  all_well : (t : Doing) → WellOverAll t → AllWell (IsTrueIn es) t
  all_well (Leaves env) well = well [] (record { incoming = []; written = [] })
  all_well Halts well = tt
  all_well Fails well = well [] (record { incoming = []; written = [] })
  all_well (Asks port next) well = λ bytes is. all_well (next bytes) (after_bytes port next bytes is well)
  all_well (Sends port message next) well = all_well next (after_message port message next well)

  running_well : (ports : List (Option Port)) (p : Process) (env : Environment)
      → ((listens : List Bool) (l : Links) → IsWell (run (record { ports = ports; listens = listens }) p env l) es)
      → AllWell (IsTrueIn es) (doing ports p env)
  running_well ports p env well =
      all_well (doing ports p env) (λ listens l.
      subst (λ o. IsWell o es) (doing_is_running (record { ports = ports; listens = listens }) p env l) (well listens l))

pub leaves_are_true : LeavesAreTrue
leaves_are_true = record { leaving = all_well; running = running_well }
