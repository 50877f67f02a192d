-- Theorems as the program holds them: what they claim, and which items are ready to be checked against a book.
use Rattle.std.specs.Prelude.{map, Option}
use Rattle.ipdl_forms.specs.Documents.{entry_of, document_of}
use Rattle.ipdl_forms.specs.declared.document.Item.{Item}
use Rattle.ipdl_forms.specs.declared.document.Item.TheVariants as I
use Rattle.ipdl_forms.specs.declared.document.TheoremItem.{TheoremItem}
use Rattle.ipdl_script.specs.Ready.{IsReady}
use Rattle.ipdl_script.specs.Views.{proved_of}
use Rattle.ipdl_script.specs.declared.theorem.Book.{Book}
use Rattle.ipdl_top.specs.Chains.{Claim, claim_of}

-- the claim of a theorem of the book's document, which may use the theorems of the book
abbrev pub held_claim : Book → TheoremItem → Option Claim
held_claim book theorem =
    claim_of book.document.now.sig (document_of book.document.now).entries (map proved_of book.chains)
    (entry_of book.document.now.sig (I.Theorem theorem))

-- the item may be checked, if it is a theorem
abbrev pub IsReadyItem : Book → Item → Type 0
IsReadyItem book (I.Symbol n) = Unit {0}
IsReadyItem book (I.Protocol p) = Unit {0}
IsReadyItem book (I.Assumption a) = Unit {0}
IsReadyItem book (I.Theorem t) = IsReady book t
