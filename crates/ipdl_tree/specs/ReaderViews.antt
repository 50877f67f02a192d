-- The reader's state as plain data.
use Rattle.std.specs.Prelude.{ℕ, ◌≤◌, IsTrue, List, length, drop, option_map}
use Rattle.ipdl_base.specs.Names.{is_name}
use Rattle.ipdl_tree.specs.declared.token.OpenToken.{OpenToken}
use Rattle.ipdl_tree.specs.declared.token.OpenToken.TheVariants as tokens
use Rattle.ipdl_tree.specs.declared.reader.Reader.{Reader}
use Rattle.ipdl_tree.specs.Reading.{Token, no_token, comment, open_name, open_number, open_literal, Reading}
use Rattle.ipdl_tree.specs.Openings.{groups_of}
use Rattle.ipdl_tree.specs.Views.{located}

-- an open token, after the text before the offset where the reader is
abbrev pub token_view : List ℕ → OpenToken → Token
token_view front tokens.Nothing = no_token
token_view front tokens.Comment = comment
token_view front (tokens.Name start) = open_name start (drop start front)
token_view front (tokens.Number start value) = open_number start value
token_view front (tokens.Literal start bits) = open_literal start bits

-- the reader's state, after the text before the offset where it is
abbrev pub reading : List ℕ → Reader → Reading
reading front r = record { token = token_view front r.token; groups = groups_of r.groups; complete = option_map located r.complete }

-- a name that is open is one so far
abbrev pub IsTokenAfter : List ℕ → OpenToken → Type 0
IsTokenAfter front (tokens.Name start) = (start ≤ length front) × IsTrue (is_name (drop start front))
IsTokenAfter front _ = Unit {0}
