-- Where a source is refused: at the first byte at which no source that spells a tree goes on.
use Rattle.std.specs.Prelude.{◌≡◌, ℕ, ◌≤◌, List, ◌++◌, length, take, drop, IsTrue, Option, Some, None, Result, Ok, Err}
use Rattle.std.specs.Char.{IsScalar, encode_utf8}
use Rattle.std.specs.Str.{is_utf8}
use Rattle.ipdl_tree.specs.Trees.{Located, IsShallow}
use Rattle.ipdl_tree.specs.Spelling.{SpellsSource}
use Rattle.ipdl_tree.specs.Reading.{read_source}
pub use Rattle.ipdl_tree.specs.Causes.{Cause, bad_byte, bad_name, unclosed, extra, no_text, deep}

-- the source spells a tree that is not too deep
abbrev pub IsSpelled : List ℕ → Type 0
IsSpelled source = (t : Located) × SpellsSource t source × IsShallow t

-- such a source begins with the bytes
abbrev pub CanGoOn : List ℕ → Type 0
CanGoOn front = (more : List ℕ) × IsSpelled (front ++ more)

-- What stands at the offset of a refusal: the bytes before it are text that can go on, and with the character that
-- stands there they cannot. Where the source ends there, or no character begins there, that says nothing, but a source
-- that is refused spells no tree.
pub record IsRefusedAt (source : List ℕ) (offset : ℕ) : Type 0 where
  pub within : offset ≤ length source
  pub text : IsTrue (is_utf8 (take offset source))
  pub front : CanGoOn (take offset source)
  pub next : (c : ℕ) (rest : List ℕ) → IsScalar c → drop offset source ≡ encode_utf8 c ++ rest → CanGoOn (take offset source ++ encode_utf8 c) → ⊥
  pub whole : IsSpelled source → ⊥

abbrev pub error_of : {A : Type 0} → Result A (ℕ × Cause) → Option (ℕ × Cause)
error_of (Ok x) = None
error_of (Err e) = Some e

-- the refusal of a source, with its offset: the first one that reading it meets
unfoldable pub refusal : List ℕ → Option (ℕ × Cause)
refusal source = error_of (read_source source)
