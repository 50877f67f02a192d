-- The source and the sink in memory.
use Rattle.std.specs.Prelude.{ℕ, ◌-◌, ◌==◌, ◌||◌, Bool, min, List, ◌++◌, length, take, drop, if◌then◌else◌}
use Rattle.std.specs.List.{list_any}
use Rattle.ipdl_io.specs.declared.stream.Got.{Got}
use Rattle.ipdl_io.specs.declared.stream.Got.TheVariants.{Bytes, End, Failed}
use Rattle.ipdl_io.specs.declared.stream.Put.{Put}
use Rattle.ipdl_io.specs.declared.stream.Put.TheVariants.{Took, Failed as PutFailed}
use Rattle.ipdl_io.specs.Faults.{next_count}

-- a source: the bytes not given yet, the most that one call gives, the numbers of the calls that
-- fail, how many calls there were, and how many of them failed
pub record SourceState : Type 0 where
  pub left : List ℕ
  pub piece : ℕ
  pub fails : List ℕ
  pub calls : ℕ
  pub faults : ℕ

-- a sink: the bytes that were taken, the most that it takes in all, the most that one call takes,
-- the numbers of the calls that fail, how many calls there were, and how many of them failed
pub record SinkState : Type 0 where
  pub taken : List ℕ
  pub room : ℕ
  pub piece : ℕ
  pub fails : List ℕ
  pub calls : ℕ
  pub faults : ℕ

-- whether the call of this number, counted from 0, is one of those that fail
abbrev pub fails_at : List ℕ → ℕ → Bool
fails_at fails call = list_any (λ number. number == call) fails

-- how many bytes a read gives that does not fail, at a buffer of this length
abbrev pub given_count : SourceState → ℕ → ℕ
given_count source size = min (min source.piece size) (length source.left)

-- what a read answers, at a buffer of this length
abbrev pub read_answer : SourceState → ℕ → Got
read_answer source size =
    if fails_at source.fails source.calls then
    Failed
    else (if length source.left == 0 then End else Bytes (given_count source size))

-- the source after a read, at a buffer of this length
abbrev pub after_read : SourceState → ℕ → SourceState
after_read source size =
    if fails_at source.fails source.calls then
    record source { calls = next_count source.calls; faults = next_count source.faults }
    else record source { calls = next_count source.calls; left = drop (given_count source size) source.left }

-- how many bytes a write takes that does not fail, of a piece of this length
abbrev pub taken_count : SinkState → ℕ → ℕ
taken_count sink size = min (min sink.piece size) (sink.room - length sink.taken)

-- whether the next write fails: by its number, or since no room is left
abbrev pub is_failing_write : SinkState → Bool
is_failing_write sink = fails_at sink.fails sink.calls || (sink.room - length sink.taken == 0)

-- what a write answers, at a piece of this length
abbrev pub write_answer : SinkState → ℕ → Put
write_answer sink size = if is_failing_write sink then PutFailed else Took (taken_count sink size)

-- the sink after a write of this piece
abbrev pub after_write : SinkState → List ℕ → SinkState
after_write sink piece =
    if is_failing_write sink then
    record sink { calls = next_count sink.calls; faults = next_count sink.faults }
    else (let front = take (taken_count sink (length piece)) piece in
    record sink { calls = next_count sink.calls; taken = sink.taken ++ front })
