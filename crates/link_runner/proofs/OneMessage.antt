-- What becomes of one message.
use Rattle.std.proofs.Common.{◌≡◌, ℕ, ◌+◌, Bool, true, false, is_some, List, [], ◌++◌, length}
use Rattle.std.proofs.Common.{Option, Some, None}
use Rattle.std.proofs.Common.{Ok, Err, refl, sym, ap, subst, ◌∙◌, arith}
use Rattle.std.proofs.lemmas.List.{length-append}
use Rattle.module_format.specs.Contents.{Contents}
use Rattle.machine_state.specs.declared.event.Event.TheVariants.{Acknowledge}
use Rattle.machine_state.specs.declared.link.Link.{Link}
use Rattle.machine_state.specs.declared.link.Link.TheVariants.{Zero, One, Two, Three}
use Rattle.machine_state.specs.World.{World}
use Rattle.machine_state.specs.Happens.{happens}
use Rattle.link_runs.specs.ByLink.{ByLink, of_link, with_link}
use Rattle.link_runs.specs.FirstInFirstOut.{RunMoment, delivered}
use Rattle.link_runs.specs.RunLaws.{written_if}
use Rattle.link_runner.specs.declared.device.Failed.{Failed}
use Rattle.link_runner.specs.declared.tally.Counts.{Counts}
use Rattle.link_runner.specs.declared.tally.Tally.{Tally}
use Rattle.link_runner.specs.Counting.{saturated, with_count, counts_of, lengths_of, tally_of}
use Rattle.link_runner.specs.Readers.{at_link, flag_at, NoneFailed, SameElsewhere}
use Rattle.link_runner.specs.Writers.{writers_of, Puts, PutsOn, IsTold, FailsToPut, IsDelivered}
use Rattle.link_runner.proofs.AtLinks.{of_by_link, still_none, now_one}

saturated_more : (n k : ℕ) → saturated (saturated n + k) ≡ saturated (n + k)
saturated_more n k = omega arith

-- a message more
pub counted_message : (link : Link) (all : ByLink (List ℕ)) (message : List ℕ)
    → with_count link (length message) (counts_of (lengths_of all))
    ≡ counts_of (lengths_of (with_link link (of_link all link ++ message) all))
counted_message Zero all message = ap (λ (n : ℕ). record (counts_of (lengths_of all)) { first = n })
    (saturated_more (length all.first) (length message) ∙ ap saturated (sym (length-append all.first message)))
counted_message One all message = ap (λ (n : ℕ). record (counts_of (lengths_of all)) { second = n })
    (saturated_more (length all.second) (length message) ∙ ap saturated (sym (length-append all.second message)))
counted_message Two all message = ap (λ (n : ℕ). record (counts_of (lengths_of all)) { third = n })
    (saturated_more (length all.third) (length message) ∙ ap saturated (sym (length-append all.third message)))
counted_message Three all message = ap (λ (n : ℕ). record (counts_of (lengths_of all)) { fourth = n })
    (saturated_more (length all.fourth) (length message) ∙ ap saturated (sym (length-append all.fourth message)))

-- ---- a message that is delivered, or not

pub delivered_with : (m : Contents) (flags : ByLink Bool) (link : Link) (message : List ℕ) (s : RunMoment)
    → of_link flags link ≡ true
    → delivered m flags link message s ≡ record s {
      world = happens m s.world (Acknowledge link);
      written = with_link link (of_link s.written link ++ message) s.written;
    }
delivered_with m flags link message s is = rw is refl

pub delivered_without : (m : Contents) (flags : ByLink Bool) (link : Link) (message : List ℕ) (s : RunMoment)
    → of_link flags link ≡ false → delivered m flags link message s ≡ s
delivered_without m flags link message s is = rw is refl

module _ {W : Type 0} (written : W → Option (List ℕ)) (failed : W → Bool) (link : Link) (message : List ℕ)
    (before after : List (Option W)) (none : NoneFailed failed before) (elsewhere : SameElsewhere before after link)
  where
    there : (o : Option W) → at_link before link ≡ o → of_link (writers_of before) link ≡ is_some o
    there o is = of_by_link (λ on. is_some (at_link before on)) link ∙ ap is_some is

    puts_if : (b : Bool) (bytes : List ℕ) → of_link (writers_of before) link ≡ b
        → Puts written (at_link before link) (at_link after link) (written_if b bytes)
        → PutsOn written link (written_if (of_link (writers_of before) link) bytes) before after
    puts_if b bytes is puts = record {
      here = subst (λ (b : Bool). Puts written (at_link before link) (at_link after link) (written_if b bytes)) (sym
          is) puts;
      elsewhere = elsewhere;
    }

    -- it was written whole
    pub record IsPut : Type 0 where
      pub there : of_link (writers_of before) link ≡ true
      pub puts : PutsOn written link (written_if (of_link (writers_of before) link) message) before after
      pub none_failed : NoneFailed failed after

    whole : (x y : Option W) → at_link before link ≡ x → at_link after link ≡ y
        → IsTold written failed {E = Failed} x message (Some (Ok tt)) y → IsPut
    whole None y was is told = absurd told
    whole (Some old) None was is told = absurd told
    whole (Some old) (Some new) was is told = record {
      there = there (Some old) was;
      puts = puts_if true message (there (Some old) was) (subst (λ (o : Option W). Puts written o (at_link after link)
          message)
          (sym was) (subst (λ (o : Option W). Puts written (Some old) o message) (sym is) told.appends));
      none_failed = still_none failed before after link none elsewhere (ap (flag_at failed) is ∙ told.has_not_failed);
    }

    pub put_whole : IsTold written failed {E = Failed} (at_link before link) message (Some (Ok tt)) (at_link after
        link) → IsPut
    put_whole told = whole (at_link before link) (at_link after link) refl refl told

    -- there is no writer
    pub record IsNobody : Type 0 where
      pub nobody : of_link (writers_of before) link ≡ false
      pub puts : PutsOn written link (written_if (of_link (writers_of before) link) message) before after
      pub none_failed : NoneFailed failed after

    nowhere : (x y : Option W) → at_link before link ≡ x → at_link after link ≡ y
        → IsTold written failed {E = Failed} x message None y → IsNobody
    nowhere None None was is told = record {
      nobody = there None was;
      puts = puts_if false message (there None was) (subst (λ (o : Option W). Puts written o (at_link after link) [])
          (sym was) (subst (λ (o : Option W). Puts written None o []) (sym is) refl));
      none_failed = still_none failed before after link none elsewhere (ap (flag_at failed) is);
    }
    nowhere None (Some new) was is told = absurd told
    nowhere (Some old) None was is told = absurd told
    nowhere (Some old) (Some new) was is told = absurd told

    pub put_nowhere : IsTold written failed {E = Failed} (at_link before link) message None (at_link after link)
        → IsNobody
    put_nowhere told = nowhere (at_link before link) (at_link after link) refl refl told

    -- a part of it was written
    partly : (e : Failed) (x y : Option W) → at_link before link ≡ x → at_link after link ≡ y
        → IsTold written failed x message (Some (Err e)) y → FailsToPut written failed link message before after
    partly e None y was is told = absurd told
    partly e (Some old) None was is told = absurd told
    partly e (Some old) (Some new) was is told = record {
      there = ap is_some was;
      part = told.0;
      is_part = told.1.is_part;
      puts = record {
        here = subst (λ (o : Option W). Puts written o (at_link after link) told.0)
            (sym was) (subst (λ (o : Option W). Puts written (Some old) o told.0) (sym is) told.1.appends);
        elsewhere = elsewhere;
      };
      one_failed = now_one failed before after link none elsewhere (ap (flag_at failed) is ∙ told.1.has_failed);
    }

    pub put_partly : (e : Failed)
        → IsTold written failed (at_link before link) message (Some (Err e)) (at_link after link)
        → FailsToPut written failed link message before after
    put_partly e told = partly e (at_link before link) (at_link after link) refl refl told

    module _ (m : Contents) (s : RunMoment) (tally : Tally) (shown : World → Type 0) where
      -- the message is delivered where the moment after it is this one
      delivers_at : (t : RunMoment) → delivered m (writers_of before) link message s ≡ t
          → PutsOn written link (written_if (of_link (writers_of before) link) message) before after
          → NoneFailed failed after → tally ≡ tally_of t → shown t.world
          → IsDelivered written failed m link message s before after tally shown
      delivers_at t same puts none_failed counts is_shown = record {
        puts = puts;
        none_failed = none_failed;
        counts = counts ∙ ap tally_of (sym same);
        is_shown = subst (λ (u : RunMoment). shown u.world) (sym same) is_shown;
      }

      pub delivers_whole : IsPut → tally ≡ record (tally_of s) {
        written = with_count link (length message) (counts_of (lengths_of s.written));
      }
          → shown (happens m s.world (Acknowledge link))
          → IsDelivered written failed m link message s before after tally shown
      delivers_whole put counts is_shown =
          delivers_at _ (delivered_with m (writers_of before) link message s put.there) put.puts put.none_failed
          (counts ∙ ap (λ (written : Counts). record (tally_of s) { written = written })
          (counted_message link s.written message)) is_shown

      pub delivers_nowhere : IsNobody → tally ≡ tally_of s → shown s.world
          → IsDelivered written failed m link message s before after tally shown
      delivers_nowhere put counts is_shown =
          delivers_at s (delivered_without m (writers_of before) link message s put.nobody) put.puts put.none_failed
          counts is_shown
