-- What is written to the writers of the output links.
use Rattle.std.specs.Prelude.{◌≡◌, ◌≢◌, ℕ, Bool, true, false, is_some, List, [], ◌++◌, Option, Some, None}
use Rattle.std.specs.Prelude.{Result, Ok}
use Rattle.std.specs.Prelude.{Err, ⊤}
use Rattle.std.specs.Io.KnownBytes.{Appends}
use Rattle.module_format.specs.Contents.{Contents}
use Rattle.machine_state.specs.declared.link.Link.{Link}
use Rattle.machine_state.specs.World.{World}
use Rattle.link_runs.specs.ByLink.{ByLink, of_link, by_link}
use Rattle.link_runs.specs.FirstInFirstOut.{RunMoment, delivered}
use Rattle.link_runs.specs.RunLaws.{written_if}
use Rattle.link_runner.specs.declared.report.Halt.{Halt}
use Rattle.link_runner.specs.declared.report.Halt.TheVariants.{ReadFailed, WriteFailed, Stopped}
use Rattle.link_runner.specs.declared.tally.Tally.{Tally}
use Rattle.link_runner.specs.Counting.{tally_of}
use Rattle.link_runner.specs.Readers.{at_link, NoneFailed, OneFailed, SameElsewhere, IsThere}

-- on which links there is a writer
abbrev pub writers_of : {W : Type 0} → List (Option W) → ByLink Bool
writers_of writers = by_link (λ link. is_some (at_link writers link))

-- a part of a message, but not all of it
pub record IsPart (part message : List ℕ) : Type 0 where
  pub rest : List ℕ
  pub whole : message ≡ part ++ rest
  pub more : rest ≢ []

module _ {W : Type 0} (written : W → Option (List ℕ)) where
  -- these bytes were written, where there is a writer
  abbrev pub Puts : Option W → Option W → List ℕ → Type 0
  Puts None None bytes = bytes ≡ []
  Puts None (Some after) bytes = ⊥
  Puts (Some before) None bytes = ⊥
  Puts (Some before) (Some after) bytes = Appends (written before) (written after) bytes

  -- these bytes were written on this link, and nothing elsewhere
  pub record PutsOn (link : Link) (bytes : List ℕ) (before after : List (Option W)) : Type 0 where
    pub here : Puts (at_link before link) (at_link after link) bytes
    pub elsewhere : SameElsewhere before after link

  module _ (failed : W → Bool) where
    -- The message was written, or a part of it, and the writer has failed.
    pub record FailsAfter (before after : W) (message part : List ℕ) : Type 0 where
      pub appends : Appends (written before) (written after) part
      pub is_part : IsPart part message
      pub has_failed : failed after ≡ true

    pub record IsWhole (before after : W) (message : List ℕ) : Type 0 where
      pub appends : Appends (written before) (written after) message
      pub has_not_failed : failed after ≡ false

    abbrev pub WritesWhole : {E : Type 0} → W → W → List ℕ → Result ⊤ E → Type 0
    WritesWhole before after message (Ok _) = IsWhole before after message
    WritesWhole before after message (Err _) = (part : List ℕ) × FailsAfter before after message part

    pub record FailsToPut (link : Link) (message : List ℕ) (before after : List (Option W)) : Type 0 where
      pub there : is_some (at_link before link) ≡ true
      pub part : List ℕ
      pub is_part : IsPart part message
      pub puts : PutsOn link part before after
      pub one_failed : OneFailed failed after link

    -- the writer of a link was given a message, if there is one
    abbrev pub IsTold : {E : Type 0} → Option W → List ℕ → Option (Result ⊤ E) → Option W → Type 0
    IsTold None message None None = ⊤
    IsTold None message result after = ⊥
    IsTold (Some before) message (Some result) (Some after) = WritesWhole before after message result
    IsTold (Some before) message result after = ⊥

    pub record PutsMessage {E : Type 0} (link : Link) (message : List ℕ) (result : Option (Result ⊤ E))
        (before after : List (Option W)) : Type 0 where
      pub told : IsTold (at_link before link) message result (at_link after link)
      pub elsewhere : SameElsewhere before after link

    -- the message is delivered
    pub record IsDelivered (m : Contents) (link : Link) (message : List ℕ) (s : RunMoment)
        (before after : List (Option W)) (tally : Tally) (shown : World → Type 0) : Type 0 where
      pub puts : PutsOn link (written_if (of_link (writers_of before) link) message) before after
      pub none_failed : NoneFailed failed after
      pub counts : tally ≡ tally_of (delivered m (writers_of before) link message s)
      pub is_shown : shown (delivered m (writers_of before) link message s).world

    -- what became of a message
    abbrev pub Delivers : {S : Type 0} → Contents → Link → List ℕ → RunMoment → List (Option W) → List (Option W)
        → Result ⊤ (Halt S) → Tally → (World → Type 0) → (World → S → Type 0) → Type 0
    Delivers m link message s before after (Ok _) tally shown stopped =
        IsDelivered m link message s before after tally shown
    Delivers m link message s before after (Err (WriteFailed on)) tally shown stopped =
        (on ≡ link) × FailsToPut link message before after
    Delivers m link message s before after (Err (ReadFailed on)) tally shown stopped = ⊥
    Delivers m link message s before after (Err (Stopped stop)) tally shown stopped =
        IsDelivered m link message s before after tally (IsThere m (λ w. stopped w stop))
