-- What a character begins where no token is open.
use Rattle.std.specs.Prelude.{ℕ, Bool, ◌==◌, ◌&&◌, nat_le, if◌then◌else◌}
use Rattle.ipdl_base.specs.Names.{starts_name}
use Rattle.ipdl_tree.specs.declared.character.Beginning.{Beginning}
use Rattle.ipdl_tree.specs.declared.character.Beginning.TheVariants.{Blank, Comment, Opening, Closing, Number, Literal, Word, Nothing}
use Rattle.ipdl_tree.specs.Spelling.{is_blank}

abbrev pub is_digit : ℕ → Bool
is_digit c = nat_le 48 c && nat_le c 57

-- the tests go in this order
abbrev pub beginning_of : ℕ → Beginning
beginning_of c =
    if is_blank c then Blank
    else (if c == 59 then Comment
    else (if c == 40 then Opening
    else (if c == 41 then Closing
    else (if is_digit c then Number
    else (if c == 35 then Literal
    else (if starts_name c then Word else Nothing))))))
