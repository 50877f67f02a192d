-- Which texts are names. A character is its code, and a text is its bytes.
use Rattle.std.specs.Prelude.{ℕ, Bool, false, ◌&&◌, ◌||◌, ◌==◌, nat_le, List, [], ◌∷◌, length}
use Rattle.std.specs.List.{list_all}
use Rattle.std.specs.Str.{chars, is_utf8}
use Rattle.unicode_ident.specs.Ident.{is_xid_start, is_xid_continue}

-- whether the character may be the first of a name: it may start an identifier, or is `_`
abbrev pub starts_name : ℕ → Bool
starts_name c = is_xid_start c || (c == 95)

-- whether the character may be a later one of a name
abbrev pub continues_name : ℕ → Bool
continues_name c = is_xid_continue c

-- whether the characters spell a name, of whatever length
abbrev pub spells_name : List ℕ → Bool
spells_name [] = false
spells_name (c ∷ cs) = starts_name c && list_all continues_name cs

-- whether the bytes are a text of at most 64 bytes that spells a name
unfoldable pub is_name : List ℕ → Bool
is_name bytes = is_utf8 bytes && nat_le (length bytes) 64 && spells_name (chars bytes)
