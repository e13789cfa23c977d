-- What is told of a run of made lines: how often each reply came, and what the objects are then.
use Rattle.std.specs.Prelude.{ℕ, suc, ◌+◌, Bool, false, ◌==◌, List, [], ◌∷◌, ◌++◌, Option, None, Some, map, length}
use Rattle.std.specs.Prelude.{codes, decimal, get_or, slice_set, if◌then◌else◌}
use Rattle.std.specs.List.{range_with_len}
use Rattle.eos_ops.specs.declared.plain.Plain.{Plain}
use Rattle.eos_ops.specs.declared.plain.Plain.TheVariants.{Absent, Present}
use Rattle.eos_ops.specs.declared.reply.Reply.{Reply}
use Rattle.eos_ops.specs.declared.reply.Reply.TheVariants as reply
use Rattle.history.specs.Event.{Event}

-- which of the seventeen counts a reply goes into, from 0; `again` goes into none
abbrev pub place_of : Reply → Option ℕ
place_of reply.Ok = Some 0
place_of (reply.Length n) = Some 1
place_of (reply.Bytes bytes) = Some 2
place_of (reply.Range n) = Some 3
place_of reply.Exists = Some 4
place_of reply.Missing = Some 5
place_of reply.Busy = Some 6
place_of reply.Full = Some 7
place_of reply.NoObject = Some 8
place_of (reply.NoSpace n) = Some 9
place_of reply.Fault = Some 10
place_of reply.Memory = Some 11
place_of reply.Idle = Some 12
place_of reply.Active = Some 13
place_of reply.TooLong = Some 14
place_of reply.Worn = Some 15
place_of (reply.Status free locked held) = Some 16
place_of reply.Again = None

-- the words of the counts, in their order
abbrev pub count_words : List (List ℕ)
count_words = codes "ok" ∷ codes "length" ∷ codes "bytes" ∷ codes "range" ∷ codes "exists" ∷ codes "missing"
    ∷ codes "busy" ∷ codes "full" ∷ codes "noobject" ∷ codes "nospace" ∷ codes "fault" ∷ codes "memory"
    ∷ codes "idle" ∷ codes "active" ∷ codes "toolong" ∷ codes "worn" ∷ codes "status" ∷ []

abbrev pub is_place : ℕ → Option ℕ → Bool
is_place place None = false
is_place place (Some other) = place == other

-- how many of the events have a reply that goes into this count
abbrev pub counted_at : List Event → ℕ → ℕ
counted_at [] place = 0
counted_at (e ∷ past) place =
    if is_place place (place_of e.reply) then suc (counted_at past place) else counted_at past place

-- how many objects are present, and how many bytes they have in all
abbrev pub present_in : List Plain → ℕ
present_in [] = 0
present_in (Absent ∷ db) = present_in db
present_in (Present bytes ∷ db) = suc (present_in db)

abbrev pub total_in : List Plain → ℕ
total_in [] = 0
total_in (Absent ∷ db) = total_in db
total_in (Present bytes ∷ db) = total_in db + length bytes

pub record Summary : Type 0 where
  pub lines : ℕ
  pub counts : List ℕ
  pub present : ℕ
  pub total : ℕ

-- the summary of a run of these events that left these objects
abbrev pub summary_of : List Event → List Plain → Summary
summary_of past db = record {
  lines = length past;
  counts = map (counted_at past) (range_with_len 0 17);
  present = present_in db;
  total = total_in db;
}

-- the counts with one reply more
abbrev pub counted_also : Option ℕ → List ℕ → List ℕ
counted_also None counts = counts
counted_also (Some place) counts = slice_set counts place (suc (get_or counts place 0))

-- a summary with one line more, which was answered by this reply
abbrev pub with_reply : Reply → Summary → Summary
with_reply r s = record {
  lines = suc s.lines;
  counts = counted_also (place_of r) s.counts;
  present = s.present;
  total = s.total;
}

-- a summary with one present object more, of this length
abbrev pub counting_object : ℕ → Summary → Summary
counting_object n s = record { lines = s.lines; counts = s.counts; present = suc s.present; total = s.total + n }

-- a line of the summary's text: the word, a blank, the number and a line feed
abbrev pub summary_line : List ℕ → ℕ → List ℕ
summary_line word n = word ++ (codes " " ++ (decimal n ++ 10 ∷ []))

-- a line for each word with its number
abbrev pub summary_lines : List (List ℕ) → List ℕ → List ℕ
summary_lines [] numbers = []
summary_lines (word ∷ words) [] = []
summary_lines (word ∷ words) (n ∷ numbers) = summary_line word n ++ summary_lines words numbers

-- the summary's text: the number of lines, the counts, the objects and their bytes
abbrev pub summary_text : Summary → List ℕ
summary_text s = summary_line (codes "lines") s.lines ++ (summary_lines count_words s.counts
    ++ (summary_line (codes "present") s.present ++ summary_line (codes "total") s.total))
