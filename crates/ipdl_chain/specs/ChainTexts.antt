-- The text of a chain, and the last line of all chains.
use Rattle.std.specs.Prelude.{ℕ, zero, suc, List, [], ◌∷◌, ◌++◌, codes, map}
use Rattle.std.specs.Fmt.{decimal}
use Rattle.ipdl_forms.specs.Documents.{Entry, symbol_entry, protocol_entry, assumption_entry, theorem_entry}
use Rattle.ipdl_forms.specs.Steps.{direction_word}
use Rattle.ipdl_embed.specs.Pairs.{Pairs}
use Rattle.ipdl_printing.specs.Printing.{protocol_tree, context_tree}
use Rattle.ipdl_printing.specs.Texts.{line, spaced, in_parentheses, place_text}
use Rattle.ipdl_sig.specs.declared.symbol.Symbol.{Symbol}
use Rattle.ipdl_term.specs.Terms.{Channel, Protocol}
use Rattle.ipdl_tree.specs.Spelling.{tree_text}
use Rattle.ipdl_chain.specs.Chains.{Mark, by_rule, by_theorem, by_assumption, Link, Chain, exact_count, assumed_count, count_of}

-- ---- lines

-- the line that begins a chain
abbrev pub theorem_line : (theorem left right : List ℕ) → List ℕ
theorem_line theorem left right = line (spaced (codes "theorem" ∷ theorem ∷ left ∷ right ∷ []))

-- a term with its number
abbrev pub term_line : List Symbol → (number : ℕ) → Protocol → List ℕ
term_line symbols number term = line (spaced (decimal number ∷ tree_text (protocol_tree symbols term) ∷ []))

-- a channel and its new name
abbrev pub pair_text : Channel × Channel → List ℕ
pair_text pair = in_parentheses (pair.0 ∷ pair.1 ∷ [])

abbrev pub renaming_text : Pairs → List ℕ
renaming_text pairs = in_parentheses (map pair_text pairs)

abbrev pub mark_line : List Symbol → Mark → List ℕ
mark_line symbols (by_rule direction word place) =
    line (spaced (codes "by rule" ∷ direction_word direction ∷ word ∷ place_text place ∷ []))
mark_line symbols (by_theorem direction name place pairs) =
    line (spaced (codes "by theorem" ∷ direction_word direction ∷ name ∷ place_text place ∷ renaming_text pairs ∷ []))
mark_line symbols (by_assumption direction name place pairs C) =
    line (spaced (codes "by assume" ∷ direction_word direction ∷ name ∷ place_text place ∷ renaming_text pairs
    ∷ tree_text (context_tree symbols C) ∷ []))

-- each mark, and then the term that comes by it. The first one of these terms has the number
abbrev pub links_text : List Symbol → (number : ℕ) → List Link → List ℕ
links_text symbols number [] = []
links_text symbols number (link ∷ links) =
    mark_line symbols link.mark ++ term_line symbols number link.term ++ links_text symbols (suc number) links

-- how many neighbours are exact, and how many an assumption
abbrev pub count_line : (exact assumed : ℕ) → List ℕ
count_line exact assumed = line (spaced (codes "exact" ∷ decimal exact ∷ codes "assumed" ∷ decimal assumed ∷ []))

-- how many neighbours are this assumption, if there is one
abbrev pub assumption_line : (assumption : List ℕ) → (count : ℕ) → List ℕ
assumption_line assumption zero = []
assumption_line assumption (suc more) = line (spaced (codes "assume" ∷ assumption ∷ decimal (suc more) ∷ []))

abbrev pub assumption_lines : (assumptions : List (List ℕ)) → List Link → List ℕ
assumption_lines [] links = []
assumption_lines (assumption ∷ assumptions) links =
    assumption_line assumption (count_of assumption links) ++ assumption_lines assumptions links

-- ---- the text of a chain

-- the names of the assumptions among some items, in order
abbrev pub assumptions_in : List Entry → List (List ℕ)
assumptions_in [] = []
assumptions_in (symbol_entry number symbol ∷ entries) = assumptions_in entries
assumptions_in (protocol_entry name interface body ∷ entries) = assumptions_in entries
assumptions_in (assumption_entry name left right ∷ entries) = name ∷ assumptions_in entries
assumptions_in (theorem_entry name left right lefts rights ∷ entries) = assumptions_in entries

-- the symbols and the names of the assumptions being those of the document
unfoldable pub chain_text : List Symbol → (assumptions : List (List ℕ)) → (theorem left right : List ℕ) → Chain → List ℕ
chain_text symbols assumptions theorem left right chain =
    theorem_line theorem left right ++ term_line symbols 0 chain.first ++ links_text symbols 1 chain.links
    ++ count_line (exact_count chain.links) (assumed_count chain.links) ++ assumption_lines assumptions chain.links

-- ---- the last line

-- how many theorems and neighbours the chains of a document have
abbrev pub accepted_line : (theorems neighbours : ℕ) → List ℕ
accepted_line theorems neighbours =
    line (spaced (codes "accepted theorems" ∷ decimal theorems ∷ codes "neighbours" ∷ decimal neighbours ∷ []))
