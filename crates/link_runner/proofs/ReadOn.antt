-- A run that is read on.
use Rattle.std.proofs.Common.{◌≡◌, ℕ, suc, ◌+◌, ◌<◌, Bool, true, false, is_some, ◌&&◌, List}
use Rattle.std.proofs.Common.{[], ◌∷◌}
use Rattle.std.proofs.Common.{◌++◌, Option, Some, None, refl, sym, ap, subst, ◌∙◌}
use Rattle.std.specs.Io.KnownBytes.{Consumes, Keeps}
use Rattle.std.proofs.KnownBytes.{Consumes-trans, Consumes-kept}
use Rattle.module_format.specs.Contents.{Contents}
use Rattle.module_format.specs.Order.{IsBytes}
use Rattle.machine_state.specs.declared.event.Event.TheVariants.{Arrive}
use Rattle.machine_state.specs.declared.link.Link.{Link}
use Rattle.machine_state.specs.declared.link.Link.TheVariants.{Zero, One, Two, Three}
use Rattle.machine_state.specs.Moves.{link_index}
use Rattle.machine_state.specs.Happens.{happens}
use Rattle.link_runs.specs.ByLink.{ByLink, of_link, with_link}
use Rattle.link_runs.specs.Wanting.{is_running, wants}
use Rattle.link_runs.specs.FirstInFirstOut.{Supply, RunMoment, IsRun, asked, can_be_asked, supplied}
use Rattle.link_runs.specs.RunLaws.{more_on, with_more}
use Rattle.link_runs.proofs.ByLink.{of_same, of_other, with_same, with_twice, first_passes}
use Rattle.link_runs.proofs.Turns.{next_asked, one_more}
use Rattle.link_runs.proofs.Unasked.{more_is, more_there, asked_alike, unasked}
use Rattle.link_runner.specs.Readers.{at_link, inputs_of, IsSpent, Takes, EndsRightly, IsReadTo}
use Rattle.link_runner.specs.Readers.{SameElsewhere}
use Rattle.link_runner.proofs.AtLinks.{everywhere}
use Rattle.link_runner.proofs.AskedBytes.{one_byte, bytes_more}

and_right : (a b : Bool) → (a && b) ≡ true → b ≡ true
and_right true b is = is
and_right false b is = absurd (cc)

some_there : {A : Type 0} (o : Option A) → is_some o ≡ true → (x : A) × (o ≡ Some x)
some_there None is = absurd (cc)
some_there (Some x) is = (x, refl)

-- a link that is asked has nothing left of what was taken, and has not ended
pub asked_is_open : (s : RunMoment) (link : Link) → asked s ≡ Some link
    → ((on : Link) → IsSpent (of_link s.left on)) → of_link s.left link ≡ Some []
asked_is_open s link ask spent =
    let going = some_there (of_link s.left link) (and_right (wants link s.world) _
    (first_passes (can_be_asked s) link ask)) in
    let empty = subst IsSpent going.1 (spent link) in
    going.1 ∙ ap Some empty

pub asked_is_wanted : (s : RunMoment) (link : Link) → asked s ≡ Some link → wants link s.world ≡ true
asked_is_wanted s link ask = and_left (wants link s.world) _ (first_passes (can_be_asked s) link ask)
  where
    and_left : (a b : Bool) → (a && b) ≡ true → a ≡ true
    and_left true b is = refl
    and_left false b is = absurd (cc)

-- a byte more of a reader that is there
more_taken : {R : Type 0} (readers : List (Option R)) (taken : ByLink (List ℕ)) (link : Link) (reader : R)
    (bytes : List ℕ) → at_link readers link ≡ Some reader
    → inputs_of readers (with_link link (of_link taken link ++ bytes) taken)
    ≡ more_on link bytes (inputs_of readers taken)
more_taken readers taken Zero reader bytes there = rw there refl
more_taken readers taken One reader bytes there = rw there refl
more_taken readers taken Two reader bytes there = rw there refl
more_taken readers taken Three reader bytes there = rw there refl

module _ {R : Type 0} (left : R → Option (List ℕ)) (m : Contents) (first before after : List (Option R))
    (writers : ByLink Bool) (s : RunMoment) (link : Link) (elsewhere : SameElsewhere before after link) where
  -- the first of these readers is there where the last is
  first_there : (x y : Option R) (bytes : List ℕ) (reader : R) → y ≡ Some reader → Takes left x y bytes
      → (r : R) × (x ≡ Some r)
  first_there None None bytes reader is takes = absurd (cc)
  first_there None (Some y) bytes reader is takes = absurd takes
  first_there (Some x) y bytes reader is takes = (x, refl)

  takes_further : (x y z : Option R) (old new : R) (bytes more : List ℕ) → y ≡ Some old → z ≡ Some new
      → Takes left x y bytes → Consumes (left old) (left new) more → Takes left x z (bytes ++ more)
  takes_further None None z old new bytes more is then takes consumes = absurd (cc)
  takes_further None (Some y) z old new bytes more is then takes consumes = absurd takes
  takes_further (Some x) None z old new bytes more is then takes consumes = absurd (cc)
  takes_further (Some x) (Some y) None old new bytes more is then takes consumes = absurd (cc)
  takes_further (Some x) (Some y) (Some z) old new bytes more is then takes consumes =
      let same : y ≡ old = cc in
      let same_new : z ≡ new = cc in
      Consumes-trans (left x) (left y) (left z) bytes more takes
      (subst (λ (r : R). Consumes (left y) (left r) more) (sym same_new)
      (subst (λ (r : R). Consumes (left r) (left new) more) (sym same) consumes))

  pub takes_same : (x y z : Option R) (old new : R) (bytes : List ℕ) → y ≡ Some old → z ≡ Some new
      → Takes left x y bytes → Keeps (left old) (left new) → Takes left x z bytes
  takes_same None None z old new bytes is then takes keeps = absurd (cc)
  takes_same None (Some y) z old new bytes is then takes keeps = absurd takes
  takes_same (Some x) None z old new bytes is then takes keeps = absurd (cc)
  takes_same (Some x) (Some y) None old new bytes is then takes keeps = absurd (cc)
  takes_same (Some x) (Some y) (Some z) old new bytes is then takes keeps =
      let same : y ≡ old = cc in
      let same_new : z ≡ new = cc in
      Consumes-kept (left x) (left y) (left z) bytes takes
      (subst (λ (r : R). Keeps (left y) (left r)) (sym same_new)
      (subst (λ (r : R). Keeps (left r) (left new)) (sym same) keeps))

  module _ (reads : IsReadTo left m first before writers s) (nobody : is_running s.world ≡ false)
      (ask : asked s ≡ Some link) where
    empty : of_link s.left link ≡ Some []
    empty = asked_is_open s link ask reads.spent

    -- ---- a byte

    module _ (byte : ℕ) (small : byte < 256) (old new : R) (was : at_link before link ≡ Some old)
        (is : at_link after link ≡ Some new)
        (consumes : Consumes (left old) (left new) (byte ∷ [])) where
      abbrev pub with_byte_of : RunMoment
      with_byte_of = record s {
        world = happens m s.world (Arrive link byte);
        read = with_link link (of_link s.read link + 1) s.read;
      }

      abbrev taken_further : ByLink (List ℕ)
      taken_further = with_link link (of_link reads.taken link ++ byte ∷ []) reads.taken

      there_first : (r : R) × (at_link first link ≡ Some r)
      there_first = first_there (at_link first link) (at_link before link) (of_link reads.taken link) old was
          (reads.takes link)

      left_again : with_link link (Some []) (more_on link (byte ∷ []) s.left) ≡ s.left
      left_again = ap (with_link link (Some [])) (more_is link (byte ∷ []) [] s.left empty)
          ∙ (with_twice link (Some []) (Some (byte ∷ [])) s.left
          ∙ (ap (λ (supply : Supply). with_link link supply s.left) (sym empty) ∙ with_same link s.left))

      supplied_is : supplied m link (of_link (more_on link (byte ∷ []) s.left) link) (with_more link (byte ∷ []) s)
          ≡ with_byte_of
      supplied_is =
          ap (λ (supply : Supply). supplied m link supply (with_more link (byte ∷ []) s))
          (more_there link (byte ∷ []) [] s.left empty)
          ∙ ap (λ (all : ByLink Supply). record {
            world = happens m s.world (Arrive link byte);
            left = all;
            read = with_link link (of_link s.read link + 1) s.read;
            written = s.written;
          }) left_again

      asked_still : asked (with_more link (byte ∷ []) s) ≡ Some link
      asked_still = asked_alike link (byte ∷ []) s [] empty ∙ ask

      run_further : IsRun m (inputs_of first taken_further) writers (suc reads.turns) with_byte_of
      run_further = subst (λ (inputs : ByLink Supply). IsRun m inputs writers (suc reads.turns) with_byte_of)
          (sym (more_taken first reads.taken link there_first.0 (byte ∷ []) there_first.1))
          (one_more m (more_on link (byte ∷ []) (inputs_of first reads.taken)) writers reads.turns with_byte_of
          (with_more link (byte ∷ []) s)
          (unasked link (byte ∷ []) m (inputs_of first reads.taken) writers reads.turns s [] reads.run empty)
          (next_asked m writers (with_more link (byte ∷ []) s) link nobody asked_still ∙ ap Some supplied_is))

      pub byte_read : IsReadTo left m first after writers with_byte_of
      byte_read = record {
        taken = taken_further;
        takes = everywhere (λ on. Takes left (at_link first on) (at_link after on) (of_link taken_further on)) link
            (subst (Takes left (at_link first link) (at_link after link))
            (sym (of_same link (of_link reads.taken link ++ byte ∷ []) reads.taken))
            (takes_further (at_link first link) (at_link before link) (at_link after link) old new
            (of_link reads.taken link) (byte ∷ []) was is (reads.takes link) consumes))
            (λ on differ. subst (Takes left (at_link first on) (at_link after on))
            (sym (of_other link on (of_link reads.taken link ++ byte ∷ []) reads.taken differ))
            (subst (λ (o : Option R). Takes left (at_link first on) o (of_link reads.taken on))
            (sym (elsewhere on differ)) (reads.takes on)));
        are_bytes = everywhere (λ on. IsBytes (of_link taken_further on)) link
            (subst IsBytes (sym (of_same link (of_link reads.taken link ++ byte ∷ []) reads.taken))
            (bytes_more (of_link reads.taken link) (byte ∷ []) (reads.are_bytes link) (one_byte byte small)))
            (λ on differ. subst IsBytes
            (sym (of_other link on (of_link reads.taken link ++ byte ∷ []) reads.taken differ)) (reads.are_bytes on));
        turns = suc reads.turns;
        run = run_further;
        spent = reads.spent;
        ends = everywhere (λ on. EndsRightly left (of_link s.left on) (at_link after on)) link
            (subst (λ (supply : Supply). EndsRightly left supply (at_link after link)) (sym empty) tt)
            (λ on differ. subst (EndsRightly left (of_link s.left on)) (sym (elsewhere on differ)) (reads.ends on));
      }

    -- ---- the end of a link

    takes_as_before : Takes left (at_link first link) (at_link after link) (of_link reads.taken link) → (on : Link)
        → Takes left (at_link first on) (at_link after on) (of_link reads.taken on)
    takes_as_before here =
        everywhere (λ on. Takes left (at_link first on) (at_link after on) (of_link reads.taken on)) link here
        (λ on differ. subst (λ (o : Option R). Takes left (at_link first on) o (of_link reads.taken on))
        (sym (elsewhere on differ)) (reads.takes on))

    ends_elsewhere : (on : Link) → (link_index link ≡ link_index on → ⊥)
        → EndsRightly left (of_link s.left on) (at_link after on)
    ends_elsewhere on differ = subst (EndsRightly left (of_link s.left on)) (sym (elsewhere on differ)) (reads.ends on)

    abbrev pub with_end_of : RunMoment
    with_end_of = record s { left = with_link link None s.left }

    pub end_read : Takes left (at_link first link) (at_link after link) (of_link reads.taken link)
        → EndsRightly left None (at_link after link) → IsReadTo left m first after writers with_end_of
    end_read takes at_end = record {
      taken = reads.taken;
      takes = takes_as_before takes;
      are_bytes = reads.are_bytes;
      turns = suc reads.turns;
      run = one_more m (inputs_of first reads.taken) writers reads.turns with_end_of s reads.run
          (next_asked m writers s link nobody ask
          ∙ ap (λ (supply : Supply). Some (supplied m link supply s)) empty);
      spent = everywhere (λ on. IsSpent (of_link (with_link link None s.left) on)) link
          (subst IsSpent (sym (of_same link None s.left)) tt)
          (λ on differ. subst IsSpent (sym (of_other link on None s.left differ)) (reads.spent on));
      ends = everywhere (λ on. EndsRightly left (of_link (with_link link None s.left) on) (at_link after on)) link
          (subst (λ (supply : Supply). EndsRightly left supply (at_link after link)) (sym (of_same link None s.left))
          at_end)
          (λ on differ. subst (λ (supply : Supply). EndsRightly left supply (at_link after on))
          (sym (of_other link on None s.left differ)) (ends_elsewhere on differ));
    }

    -- nothing was taken by a read that failed
    pub none_read : Takes left (at_link first link) (at_link after link) (of_link reads.taken link)
        → IsReadTo left m first after writers s
    none_read takes = record {
      taken = reads.taken;
      takes = takes_as_before takes;
      are_bytes = reads.are_bytes;
      turns = reads.turns;
      run = reads.run;
      spent = reads.spent;
      ends = everywhere (λ on. EndsRightly left (of_link s.left on) (at_link after on)) link
          (subst (λ (supply : Supply). EndsRightly left supply (at_link after link)) (sym empty) tt) ends_elsewhere;
    }
