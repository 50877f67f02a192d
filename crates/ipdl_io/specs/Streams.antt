-- What one call takes out of a source and puts into a sink.
use Rattle.std.specs.Prelude.{◌≡◌, ℕ, ◌<◌, ◌≤◌, List, length, take, Option}
use Rattle.std.specs.Io.KnownBytes.{prepend_known, append_known, IsAtEnd}
use Rattle.ipdl_io.specs.declared.stream.Got.{Got}
use Rattle.ipdl_io.specs.declared.stream.Got.TheVariants.{Bytes, End, Failed}
use Rattle.ipdl_io.specs.declared.stream.Put.{Put}
use Rattle.ipdl_io.specs.declared.stream.Put.TheVariants.{Took, Failed as PutFailed}
use Rattle.ipdl_io.specs.Faults.{MayHaveRisen}

-- what a read says of the bytes that are left, of the faults, and of the buffer after it
abbrev pub ReadGives : Got → Option (List ℕ) → Option (List ℕ) → ℕ → ℕ → List ℕ → Type 0
ReadGives (Bytes n) left left' faults faults' into =
    (0 < n) × (n ≤ length into) × (left ≡ prepend_known (take n into) left') × (faults' ≡ faults)
ReadGives End left left' faults faults' into = IsAtEnd left × (left' ≡ left) × (faults' ≡ faults)
ReadGives Failed left left' faults faults' into =
    (left' ≡ left) × (faults ≤ faults') × MayHaveRisen faults faults'

-- what a write says of the bytes that are taken, and of the faults
abbrev pub WriteTakes : Put → Option (List ℕ) → Option (List ℕ) → ℕ → ℕ → List ℕ → Type 0
WriteTakes (Took n) taken taken' faults faults' piece =
    (0 < n) × (n ≤ length piece) × (taken' ≡ append_known taken (take n piece)) × (faults' ≡ faults)
WriteTakes PutFailed taken taken' faults faults' piece =
    (taken' ≡ taken) × (faults ≤ faults') × MayHaveRisen faults faults'
