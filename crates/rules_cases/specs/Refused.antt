-- Records that are refused for an element or an end, and their neighbours that are not: worked out by hand from the rules.
use Rattle.std.specs.Prelude.{ℕ, List, [], ◌∷◌, ◌++◌, map}
use Rattle.std.specs.List.{range_with_len}
use Rattle.record.specs.declared.row.Row.{Row}
use Rattle.record.specs.declared.refusal.Refusal.TheVariants.{BadRow, OutOfOrder, Forbidden, TooMany, ScopeFull, BadItem, Unbound, NotIgnorable, UnknownName, BadAttribute, Misplaced, XmlAttribute}
use Rattle.rules_cases.specs.Case.{Case, row, start, declare, attribute, text, end, refuses}
use Rattle.rules_cases.specs.Words.{copies, x, reading, reading-q, extending, kept, all-kept, none, urn:p, urn:q, urn:s, MC, XML, p, q, s, z, mc, xml, Ignorable, Fallback, Requires, W, X, Foo, base, lang, space, id, words, q-and-z, q:W, q:W-and-s:W, z:W, xml:W, mc:W, star:W, q:star, q:starred, two-colons, only-colon, no_local, no-prefix, blanks, many-q, too-many-q, many-q:W, too-many-q:W, p:r, p:W, q:X, alternate, choice, fallback, bind-p, bind-q, bind-s, bind-mc, ignorable, process, must, requires}

abbrev declarations : ℕ → List Row
declarations n = map (λ (i : ℕ). declare (x i) urn:p) (range_with_len 0 n)

abbrev attributes : ℕ → List Row
attributes n = map (λ (i : ℕ). attribute none (x i) words) (range_with_len 0 n)

-- an element with 32 declarations: 33 rows
abbrev crowded : List Row
crowded = p:W ∷ declarations 32

abbrev bad_rows : List Case
bad_rows =
    -- no such kind
    reading (row 6 0 0 0 ∷ []) (refuses (BadRow 0))
    -- a number that names no text
    ∷ reading (p:r ∷ row 1 1 900 0 ∷ []) (refuses (BadRow 1))
    -- a start without local name
    ∷ reading (row 1 1 0 0 ∷ []) (refuses (BadRow 0))
    -- a text with a second number
    ∷ reading (p:r ∷ row 4 1 1 0 ∷ []) (refuses (BadRow 1))
    -- an end with a number, out of order too
    ∷ reading (row 5 1 0 0 ∷ []) (refuses (BadRow 0))
    ∷ []

abbrev out_of_order : List Case
out_of_order =
    -- no rows
    reading [] (refuses (OutOfOrder 0))
    -- a text outside the root
    ∷ reading (text words ∷ []) (refuses (OutOfOrder 0))
    -- a declaration behind an attribute
    ∷ reading (p:r ∷ attribute none W words ∷ bind-p ∷ end ∷ []) (refuses (OutOfOrder 2))
    -- an attribute behind a text
    ∷ reading (p:r ∷ text words ∷ attribute none W words ∷ end ∷ []) (refuses (OutOfOrder 2))
    -- a second root
    ∷ reading (p:r ∷ end ∷ p:r ∷ end ∷ []) (refuses (OutOfOrder 2))
    -- a root without its end
    ∷ reading (p:r ∷ text words ∷ []) (refuses (OutOfOrder 2))
    -- a row out of order leaves a faulty element unjudged
    ∷ reading (p:r ∷ attribute MC Foo words ∷ bind-p ∷ end ∷ []) (refuses (OutOfOrder 2))
    ∷ []

abbrev forbidden : List Case
forbidden =
    -- the prefix xml, even for its own namespace
    reading (p:r ∷ declare xml XML ∷ end ∷ []) (refuses (Forbidden 1))
    -- a prefix for no namespace
    ∷ reading (p:r ∷ declare q none ∷ end ∷ []) (refuses (Forbidden 1))
    -- a prefix twice
    ∷ reading (p:r ∷ bind-q ∷ declare q urn:s ∷ end ∷ []) (refuses (Forbidden 2))
    -- an attribute name twice
    ∷ reading (p:r ∷ attribute none W words ∷ attribute none W q ∷ end ∷ []) (refuses (Forbidden 2))
    -- the same local name in two namespaces
    ∷ all-kept reading (p:r ∷ attribute none W words ∷ attribute urn:p W words ∷ end ∷ []) 4
    -- another prefix for XML
    ∷ all-kept reading (p:r ∷ declare s XML ∷ end ∷ []) 3
    ∷ []

abbrev too_many : List Case
too_many =
    -- 64 elements open together
    all-kept reading (copies 64 (p:W ∷ []) ++ copies 64 (end ∷ [])) 128
    -- and one more
    ∷ reading (copies 65 (p:W ∷ []) ++ copies 65 (end ∷ [])) (refuses (TooMany 64))
    -- 32 declarations and 32 attributes
    ∷ all-kept reading (p:r ∷ (declarations 32 ++ (attributes 32 ++ (end ∷ [])))) 66
    -- a 33rd declaration
    ∷ reading (p:r ∷ (declarations 33 ++ (end ∷ []))) (refuses (TooMany 33))
    -- a 33rd attribute
    ∷ reading (p:r ∷ (attributes 33 ++ (end ∷ []))) (refuses (TooMany 33))
    ∷ []

abbrev scope_full : List Case
scope_full =
    -- 128 bindings
    all-kept reading (copies 4 crowded ++ copies 4 (end ∷ [])) 136
    -- and one more
    ∷ reading (copies 4 crowded ++ (p:W ∷ bind-p ∷ copies 5 (end ∷ []))) (refuses (ScopeFull 132))
    -- bindings end with their element
    ∷ all-kept reading (copies 4 crowded ++ (end ∷ crowded) ++ copies 4 (end ∷ [])) 170
    -- 128 items of Ignorable
    ∷ kept reading (p:r ∷ bind-q ∷ ignorable many-q ∷ end ∷ []) (0 ∷ 3 ∷ []) 2
    -- and one more
    ∷ reading (p:r ∷ bind-q ∷ ignorable too-many-q ∷ end ∷ []) (refuses (ScopeFull 2))
    -- and one more, further inside
    ∷ reading (p:r ∷ bind-q ∷ ignorable many-q ∷ p:W ∷ ignorable q ∷ end ∷ end ∷ []) (refuses (ScopeFull 4))
    -- 128 items of ProcessContent
    ∷ kept reading (p:r ∷ bind-q ∷ ignorable q ∷ process many-q:W ∷ end ∷ []) (0 ∷ 4 ∷ []) 2
    -- and one more
    ∷ reading (p:r ∷ bind-q ∷ ignorable q ∷ process too-many-q:W ∷ end ∷ []) (refuses (ScopeFull 3))
    -- and one more, further inside
    ∷ reading (p:r ∷ bind-q ∷ ignorable q ∷ process many-q:W ∷ p:W ∷ process q:W ∷ end ∷ end ∷ []) (refuses (ScopeFull 5))
    -- an extension element makes no entry
    ∷ kept extending (p:r ∷ bind-q ∷ ignorable many-q ∷ q:X ∷ ignorable q ∷ end ∷ end ∷ []) (0 ∷ 3 ∷ 4 ∷ 5 ∷ 6 ∷ []) 5
    -- MustUnderstand makes none
    ∷ kept reading (p:r ∷ bind-q ∷ bind-p ∷ ignorable many-q ∷ p:W ∷ must p ∷ end ∷ end ∷ []) (0 ∷ 2 ∷ 4 ∷ 6 ∷ 7 ∷ []) 5
    ∷ []

abbrev processing : ℕ → List Row
processing list = p:r ∷ bind-q ∷ ignorable q ∷ process list ∷ end ∷ []

abbrev requiring : ℕ → List Row
requiring list = p:r ∷ bind-q ∷ alternate ∷ choice ∷ requires list ∷ end ∷ end ∷ end ∷ []

abbrev bad_items : List Case
bad_items =
    -- the local name *
    reading (processing q:star) (refuses (BadItem 3))
    -- only exactly that
    ∷ kept reading (processing q:starred) (0 ∷ 4 ∷ []) 2
    -- two colons
    ∷ reading (processing two-colons) (refuses (BadItem 3))
    -- no colon
    ∷ reading (processing q) (refuses (BadItem 3))
    -- nothing but a colon, nothing behind it, nothing before it
    ∷ reading (processing only-colon) (refuses (BadItem 3))
    ∷ reading (processing no_local) (refuses (BadItem 3))
    ∷ reading (processing no-prefix) (refuses (BadItem 3))
    -- a colon in a list of prefixes
    ∷ reading (p:r ∷ bind-q ∷ ignorable q:W ∷ end ∷ []) (refuses (BadItem 2))
    ∷ reading (p:r ∷ bind-q ∷ must q:W ∷ end ∷ []) (refuses (BadItem 2))
    ∷ reading (requiring q:W) (refuses (BadItem 4))
    -- Requires without an item
    ∷ reading (requiring none) (refuses (BadItem 4))
    ∷ reading (requiring blanks) (refuses (BadItem 4))
    -- the others may have none
    ∷ kept reading (p:r ∷ ignorable blanks ∷ process none ∷ must blanks ∷ end ∷ []) (0 ∷ 4 ∷ []) 2
    -- in an ignored element too
    ∷ reading (p:r ∷ bind-q ∷ ignorable q ∷ start urn:q W ∷ must q:W ∷ end ∷ end ∷ []) (refuses (BadItem 4))
    -- Ignorable is tried before ProcessContent
    ∷ reading (p:r ∷ bind-q ∷ process q:star ∷ ignorable q:W ∷ end ∷ []) (refuses (BadItem 3))
    ∷ []

abbrev unbound : List Case
unbound =
    reading (p:r ∷ ignorable z ∷ end ∷ []) (refuses (Unbound 1))
    -- the second item
    ∷ reading (p:r ∷ bind-q ∷ ignorable q-and-z ∷ end ∷ []) (refuses (Unbound 2))
    ∷ reading (processing z:W) (refuses (Unbound 3))
    -- a prefix * is well formed
    ∷ reading (processing star:W) (refuses (Unbound 3))
    ∷ reading (p:r ∷ must z ∷ end ∷ []) (refuses (Unbound 1))
    ∷ reading (requiring z) (refuses (Unbound 4))
    -- a declaration ends with its element
    ∷ reading (p:r ∷ p:W ∷ bind-q ∷ end ∷ p:W ∷ ignorable q ∷ end ∷ end ∷ []) (refuses (Unbound 5))
    -- a default declaration binds no other prefix
    ∷ reading (p:r ∷ declare none urn:q ∷ ignorable q ∷ end ∷ []) (refuses (Unbound 2))
    -- in an unselected branch too
    ∷ reading (p:r ∷ bind-q ∷ alternate ∷ choice ∷ requires q ∷ p:W ∷ must z ∷ end ∷ end ∷ end ∷ end ∷ []) (refuses (Unbound 6))
    ∷ []

abbrev not_ignorable : List Case
not_ignorable =
    -- Ignorable names MC
    reading (p:r ∷ bind-mc ∷ ignorable mc ∷ end ∷ []) (refuses (NotIgnorable 2))
    -- so does a prefix that is bound to MC further inside
    ∷ reading (p:r ∷ bind-q ∷ ignorable q ∷ p:W ∷ declare q MC ∷ ignorable q ∷ end ∷ end ∷ []) (refuses (NotIgnorable 5))
    -- the second item's namespace is not ignorable
    ∷ reading (p:r ∷ bind-q ∷ bind-s ∷ ignorable q ∷ process q:W-and-s:W ∷ end ∷ []) (refuses (NotIgnorable 4))
    -- the prefix is bound anew
    ∷ reading (p:r ∷ bind-q ∷ ignorable q ∷ p:W ∷ declare q urn:s ∷ process q:W ∷ end ∷ end ∷ []) (refuses (NotIgnorable 5))
    -- ProcessContent names MC, and XML that is not ignorable
    ∷ reading (p:r ∷ bind-mc ∷ process mc:W ∷ end ∷ []) (refuses (NotIgnorable 2))
    ∷ reading (p:r ∷ process xml:W ∷ end ∷ []) (refuses (NotIgnorable 1))
    -- XML may be ignorable
    ∷ kept reading (p:r ∷ ignorable xml ∷ process xml:W ∷ end ∷ []) (0 ∷ 3 ∷ []) 2
    -- Ignorable behind ProcessContent on the same element
    ∷ kept reading (p:r ∷ bind-q ∷ process q:W ∷ ignorable q ∷ start urn:q W ∷ text words ∷ end ∷ end ∷ []) (0 ∷ 5 ∷ 7 ∷ []) 3
    -- two prefixes of one namespace
    ∷ kept reading (p:r ∷ bind-q ∷ declare s urn:q ∷ ignorable s ∷ process q:W ∷ start urn:q W ∷ text words ∷ end ∷ end ∷ [])
    (0 ∷ 6 ∷ 8 ∷ []) 3
    ∷ []

abbrev unknown_names : List Case
unknown_names =
    reading (p:r ∷ start MC Foo ∷ end ∷ end ∷ []) (refuses (UnknownName 1))
    ∷ reading (p:r ∷ attribute MC Foo words ∷ end ∷ []) (refuses (UnknownName 1))
    -- the start is tried before the attributes
    ∷ reading (p:r ∷ start MC Foo ∷ attribute MC Foo words ∷ end ∷ end ∷ []) (refuses (UnknownName 1))
    -- an attribute's name is no element's, nor the other way round
    ∷ reading (p:r ∷ start MC Ignorable ∷ end ∷ end ∷ []) (refuses (UnknownName 1))
    ∷ reading (p:r ∷ attribute MC Fallback words ∷ end ∷ []) (refuses (UnknownName 1))
    -- Requires has no namespace
    ∷ reading (p:r ∷ bind-p ∷ alternate ∷ choice ∷ requires p ∷ attribute MC Requires p ∷ end ∷ end ∷ end ∷ [])
    (refuses (UnknownName 5))
    -- in an ignored element and in an unselected branch too
    ∷ reading (p:r ∷ bind-q ∷ ignorable q ∷ start urn:q W ∷ start MC Foo ∷ end ∷ end ∷ end ∷ []) (refuses (UnknownName 4))
    ∷ reading (p:r ∷ bind-q ∷ alternate ∷ choice ∷ requires q ∷ start MC Foo ∷ end ∷ end ∷ end ∷ end ∷ []) (refuses (UnknownName 5))
    -- names are tried before Ignorable
    ∷ reading (p:r ∷ ignorable z ∷ attribute MC Foo words ∷ end ∷ []) (refuses (UnknownName 2))
    ∷ []

abbrev with_fallback : Row → List Row
with_fallback a = p:r ∷ bind-p ∷ alternate ∷ choice ∷ requires p ∷ end ∷ fallback ∷ a ∷ end ∷ end ∷ end ∷ []

abbrev bad_attributes : List Case
bad_attributes =
    -- a Choice without Requires, with another attribute and without
    reading (p:r ∷ alternate ∷ choice ∷ end ∷ end ∷ end ∷ []) (refuses (BadAttribute 2))
    ∷ reading (p:r ∷ alternate ∷ choice ∷ attribute none W words ∷ end ∷ end ∷ end ∷ []) (refuses (BadAttribute 2))
    -- an attribute without namespace, and Requires elsewhere
    ∷ reading (with_fallback (attribute none W words)) (refuses (BadAttribute 7))
    ∷ reading (with_fallback (requires p)) (refuses (BadAttribute 7))
    ∷ reading (p:r ∷ bind-p ∷ alternate ∷ requires p ∷ choice ∷ requires p ∷ end ∷ end ∷ end ∷ []) (refuses (BadAttribute 3))
    -- an attribute in XML, ignorable or not
    ∷ reading (with_fallback (attribute XML lang words)) (refuses (BadAttribute 7))
    ∷ reading (p:r ∷ ignorable xml ∷ alternate ∷ attribute XML id words ∷ end ∷ end ∷ []) (refuses (BadAttribute 3))
    -- an understood one
    ∷ reading (with_fallback (attribute urn:p X words)) (refuses (BadAttribute 7))
    -- an ignorable one, by an Ignorable around it or its own
    ∷ kept reading
    (p:r ∷ bind-q ∷ bind-p ∷ ignorable q ∷ alternate ∷ attribute urn:q X words ∷ choice ∷ requires p ∷ text words ∷ end
    ∷ end ∷ end ∷ [])
    (0 ∷ 2 ∷ 8 ∷ 11 ∷ []) 4
    ∷ kept reading
    (p:r ∷ bind-q ∷ bind-p ∷ alternate ∷ ignorable q ∷ attribute urn:q X words ∷ choice ∷ requires p ∷ end ∷ end ∷ end ∷ [])
    (0 ∷ 1 ∷ 2 ∷ 10 ∷ []) 4
    ∷ []

abbrev misplaced : List Case
misplaced =
    -- a branch elsewhere, at the root, in a branch
    reading (p:r ∷ bind-p ∷ choice ∷ requires p ∷ end ∷ end ∷ []) (refuses (Misplaced 2))
    ∷ reading (fallback ∷ end ∷ []) (refuses (Misplaced 0))
    ∷ reading (p:r ∷ bind-p ∷ alternate ∷ choice ∷ requires p ∷ choice ∷ requires p ∷ end ∷ end ∷ end ∷ end ∷ [])
    (refuses (Misplaced 5))
    -- a second Fallback
    ∷ reading (p:r ∷ bind-p ∷ alternate ∷ choice ∷ requires p ∷ end ∷ fallback ∷ end ∷ fallback ∷ end ∷ end ∷ end ∷ [])
    (refuses (Misplaced 8))
    -- AlternateContent directly in AlternateContent
    ∷ reading (p:r ∷ alternate ∷ alternate ∷ end ∷ end ∷ end ∷ []) (refuses (Misplaced 2))
    -- a child that is not ignorable, and one without namespace
    ∷ reading (p:r ∷ alternate ∷ p:W ∷ end ∷ end ∷ end ∷ []) (refuses (Misplaced 2))
    ∷ reading (p:r ∷ alternate ∷ start none W ∷ end ∷ end ∷ end ∷ []) (refuses (Misplaced 2))
    -- no Choice: with a Fallback, with nothing, with an ignored child
    ∷ reading (p:r ∷ alternate ∷ fallback ∷ end ∷ end ∷ end ∷ []) (refuses (Misplaced 4))
    ∷ reading (p:r ∷ alternate ∷ end ∷ end ∷ []) (refuses (Misplaced 2))
    ∷ reading (p:r ∷ bind-q ∷ ignorable q ∷ alternate ∷ start urn:q W ∷ end ∷ end ∷ end ∷ []) (refuses (Misplaced 6))
    -- a Choice of an inner AlternateContent does not count
    ∷ reading (p:r ∷ bind-p ∷ alternate ∷ fallback ∷ alternate ∷ choice ∷ requires p ∷ end ∷ end ∷ end ∷ end ∷ end ∷ [])
    (refuses (Misplaced 10))
    -- in an ignored element too
    ∷ reading (p:r ∷ bind-q ∷ ignorable q ∷ start urn:q W ∷ alternate ∷ end ∷ end ∷ end ∷ []) (refuses (Misplaced 5))
    -- the place is tried before the attributes
    ∷ reading (p:r ∷ choice ∷ end ∷ end ∷ []) (refuses (Misplaced 1))
    -- a child may be ignorable by its own Ignorable, an extension element may not
    ∷ kept reading
    (p:r ∷ bind-p ∷ bind-q ∷ alternate ∷ q:X ∷ ignorable q ∷ end ∷ choice ∷ requires p ∷ end ∷ end ∷ end ∷ [])
    (0 ∷ 1 ∷ 2 ∷ 11 ∷ []) 4
    ∷ extending
    (p:r ∷ bind-p ∷ bind-q ∷ alternate ∷ q:X ∷ ignorable q ∷ end ∷ choice ∷ requires p ∷ end ∷ end ∷ end ∷ [])
    (refuses (Misplaced 4))
    ∷ []

abbrev unwrapping : Row → List Row
unwrapping a = p:r ∷ bind-q ∷ ignorable q ∷ process q:W ∷ start urn:q W ∷ a ∷ end ∷ end ∷ []

abbrev xml_attributes : List Case
xml_attributes =
    reading (unwrapping (attribute XML base words)) (refuses (XmlAttribute 5))
    ∷ reading (unwrapping (attribute XML lang words)) (refuses (XmlAttribute 5))
    ∷ reading (unwrapping (attribute XML space words)) (refuses (XmlAttribute 5))
    -- another one, and the same without namespace
    ∷ kept reading (unwrapping (attribute XML id words)) (0 ∷ 7 ∷ []) 2
    ∷ kept reading (unwrapping (attribute none lang words)) (0 ∷ 7 ∷ []) 2
    -- the element is understood, so it is not unwrapped
    ∷ kept reading-q (unwrapping (attribute XML lang words)) (0 ∷ 1 ∷ 4 ∷ 5 ∷ 6 ∷ 7 ∷ []) 6
    -- the element is ignored
    ∷ kept reading (p:r ∷ bind-q ∷ ignorable q ∷ q:X ∷ attribute XML lang words ∷ end ∷ end ∷ []) (0 ∷ 6 ∷ []) 2
    -- in an unselected branch too
    ∷ reading
    (p:r ∷ bind-q ∷ ignorable q ∷ process q:W ∷ alternate ∷ choice ∷ requires q ∷ start urn:q W ∷ attribute XML base words
    ∷ end ∷ end ∷ end ∷ end ∷ [])
    (refuses (XmlAttribute 8))
    ∷ []

abbrev pub refused_cases : List Case
refused_cases =
    bad_rows ++ out_of_order ++ forbidden ++ too_many ++ scope_full ++ bad_items ++ unbound ++ not_ignorable ++ unknown_names
    ++ bad_attributes ++ misplaced ++ xml_attributes
