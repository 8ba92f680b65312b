-- What code makes a process do comes to be over links.
use Rattle.std.proofs.Common.{◌≡◌, ℕ, zero, suc, ◌<◌, ◌^◌, Bool, true, false, cond, List, [], ◌∷◌, length, take, Some}
use Rattle.std.proofs.Common.{refl}
use Rattle.std.proofs.Common.{subst, arith}
use Rattle.std.specs.Prelude.{nat_le, slice_index}
use Rattle.std.proofs.lemmas.Bool.{leb-true}
use Rattle.std.proofs.lemmas.List.{length-take-le}
use Rattle.module_format.specs.Contents.{Contents}
use Rattle.module_format.specs.Order.{IsBytes}
use Rattle.link_runs.specs.ByLink.{ByLink}
use Rattle.link_runs.specs.FirstInFirstOut.{RunMoment}
use Rattle.scalar_ranges.specs.Environments.{Environment}
use Rattle.program_meaning.specs.Doing.{Doing, over_links}
use Rattle.program_meaning.specs.Links.{Links, incoming_at, message_length, after_reading, after_writing}
use Rattle.program_meaning.specs.Running.{Outcome, Goes, Waits, Stuck}
use Rattle.placed_code.specs.Behaves.{Behaves, Passes, over, any, halts, steps, asks, sends}
use Rattle.placed_code.specs.Closing.{code_of, moment_from, At, HasLinks, Closed, in_order, listens, BehavioursClose}
use Rattle.placed_code.specs.LaidCode.{LaidCode}
use Rattle.placed_code.specs.Points as points
use Rattle.placed_code.specs.Points.{Point}
use Rattle.placed_code.specs.StraightPieces.{Footing}
use Rattle.placed_code.proofs.PointsComeToBe.{later_still, points_come_to_be}
use Rattle.placed_code.proofs.Receiving.{receives_come_to_be}
use Rattle.placed_code.proofs.LinkNumbers.{index_is}
use Rattle.placed_code.proofs.Sending.{sends_come_to_be}
use Rattle.placed_code.proofs.Stopping.{stops_come_to_be}

-- a byte before bytes
one_before : (b : ℕ) (bytes : List ℕ) → b < 256 → IsBytes bytes → (i : ℕ) → slice_index (b ∷ bytes) i < 256
one_before b bytes first rest zero = first
one_before b bytes first rest (suc i) = rest i

-- the first bytes of bytes
first_bytes : (n : ℕ) (bytes : List ℕ) → IsBytes bytes → IsBytes (take n bytes)
first_bytes zero bytes are = λ i. omega arith
first_bytes (suc n) [] are = are
first_bytes (suc n) (b ∷ bytes) are =
    one_before b (take n bytes) (are 0) (first_bytes n bytes (λ i. are (suc i)))

module _ (m : Contents) (writers : ByLink Bool) (labels : ℕ → ℕ) (footing : Footing) (shallow : footing.depth < 2 ^ 28)
    (finish : m.finish ≡ length m.code) (End : Environment → Point → Type 0) where
  abbrev c : LaidCode
  c = code_of m labels footing

  -- what closes from a later moment on closes
  closed_later : (o : Outcome) (s t : RunMoment) (n : ℕ) → moment_from m writers s n ≡ Some t
      → Closed m writers c End o t → Closed m writers c End o s
  closed_later (Goes env l) s t n first x = later_still n t first x
  closed_later (Waits l) s t n first x = later_still n t first x
  closed_later Stuck s t n first x = tt

  -- by a test
  by_test : (b : Bool) (o q : Outcome) (s : RunMoment) → (b ≡ true → Closed m writers c End o s)
      → (b ≡ false → Closed m writers c End q s) → Closed m writers c End (cond b o q) s
  by_test true o q s first second = first refl
  by_test false o q s first second = second refl

  -- a link of this number has bytes to give
  bytes_here : (l : Links) (s : RunMoment) (port : ℕ) → port < 4 → HasLinks l s → IsBytes (incoming_at port l).unread
  bytes_here l s port less links =
      subst (λ (k : ℕ). IsBytes (incoming_at k l).unread) (index_is port less) (links.are_bytes _)

  -- along all that the process does
  pub closes : {p : Point} {t : Doing} → Behaves c End p t → (l : Links) (s : RunMoment) → At m c p l s
      → Closed m writers c End (over_links (in_order writers) t l) s
  closes (over {p = p} e) l s at =
      record { turns = 0; moment = s; comes = refl; is = record { point = p; ends = e; at = at } }
  closes any l s at = tt
  closes (halts {p = p} x) l s at = stops_come_to_be.stops m writers labels footing p l s finish x at
  closes (steps {p = p} {q = q} {t = t} x rest) l s at =
      let r = points_come_to_be m writers labels footing p q l s (points.steps x points.there) at in
      closed_later (over_links (in_order writers) t l) s r.moment r.turns r.comes (closes rest l r.moment r.is)
  closes (asks {p = p} {port = port} {next = next} x rest) l s at =
      let unread = (incoming_at port.link l).unread in
      let count = message_length port.carries in
      by_test (nat_le count (length unread))
      (over_links (in_order writers) (next (take count unread)) (after_reading port.link count l))
      (Waits (after_reading port.link (length unread) l)) s
      (λ enough.
      let r = receives_come_to_be.goes m writers labels footing p port l s shallow x at enough in
      let size = length-take-le count unread (leb-true count (length unread) enough) in
      let are = first_bytes count unread (bytes_here l s port.link x.link at.links) in
      closed_later (over_links (in_order writers) (next (take count unread)) (after_reading port.link count l)) s
      r.moment r.turns r.comes
      (closes (rest (take count unread) r.is.point size are r.is.filled) (after_reading port.link count l) r.moment
      r.is.at))
      (λ few. receives_come_to_be.waits m writers labels footing p port l s shallow x at few)
  closes (sends {p = p} {port = port} {message = message} {next = next} x rest) l s at =
      by_test (listens writers port.link)
      (over_links (in_order writers) next (after_writing port.link message l)) (Waits l) s
      (λ some.
      let r = sends_come_to_be.goes m writers labels footing p port message l s shallow x at some in
      closed_later (over_links (in_order writers) next (after_writing port.link message l)) s r.moment r.turns r.comes
      (closes (rest r.is.point r.is.waited) (after_writing port.link message l) r.moment r.is.at))
      (λ none. sends_come_to_be.waits m writers labels footing p port message l s shallow x at none)

pub behaviours_close : BehavioursClose
behaviours_close m writers labels footing end p t l s shallow finish behaves at =
    closes m writers labels footing shallow finish (Passes end) behaves l s at
