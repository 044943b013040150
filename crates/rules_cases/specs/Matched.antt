-- Records with and without a mismatch, and what is kept of them: worked out by hand from the rules.
use Rattle.std.specs.Prelude.{List, [], ◌∷◌, ◌++◌}
use Rattle.record.specs.declared.refusal.Cause.TheVariants.{StrayChild, ForeignName}
use Rattle.record.specs.declared.refusal.Cause.TheVariants as cause
use Rattle.record.specs.declared.refusal.Refusal.TheVariants.{UnknownName, Mismatch}
use Rattle.rules_cases.specs.Case.{Case, start, declare, attribute, text, end, refuses}
use Rattle.rules_cases.specs.Words.{reading, reading-q, extending, kept, all-kept, none, urn:q, urn:s, MC, XML, p, q, s, z, mc, xml, Ignorable, r, W, X, Foo, lang, words, p-and-q, q:W, spread, p:r, p:W, q:X, s:W, alternate, choice, fallback, bind-p, bind-q, bind-s, bind-mc, ignorable, process, must, requires}

abbrev must_understand : List Case
must_understand =
    -- on a kept element, an AlternateContent, a selected branch, an unwrapped element
    reading (p:r ∷ bind-q ∷ must q ∷ end ∷ []) (refuses (Mismatch 2 cause.MustUnderstand))
    ∷ reading
    (p:r ∷ bind-q ∷ bind-p ∷ alternate ∷ must q ∷ choice ∷ requires p ∷ end ∷ end ∷ end ∷ [])
    (refuses (Mismatch 4 cause.MustUnderstand))
    ∷ reading
    (p:r ∷ bind-q ∷ bind-p ∷ alternate ∷ choice ∷ requires p ∷ must q ∷ end ∷ end ∷ end ∷ [])
    (refuses (Mismatch 6 cause.MustUnderstand))
    ∷ reading
    (p:r ∷ bind-q ∷ ignorable q ∷ process q:W ∷ start urn:q W ∷ must q ∷ end ∷ end ∷ []) (refuses (Mismatch 5 cause.MustUnderstand))
    -- it names MC, or one of two that is not understood
    ∷ reading (p:r ∷ bind-mc ∷ must mc ∷ end ∷ []) (refuses (Mismatch 2 cause.MustUnderstand))
    ∷ reading (p:r ∷ bind-p ∷ bind-q ∷ must p-and-q ∷ end ∷ []) (refuses (Mismatch 3 cause.MustUnderstand))
    -- it names XML, or what is understood
    ∷ kept reading (p:r ∷ must xml ∷ end ∷ []) (0 ∷ 2 ∷ []) 2
    ∷ kept reading-q (p:r ∷ bind-q ∷ must q ∷ end ∷ []) (0 ∷ 1 ∷ 3 ∷ []) 3
    -- on an unselected branch, on an ignored element, inside one
    ∷ kept reading (p:r ∷ bind-q ∷ alternate ∷ choice ∷ requires q ∷ must q ∷ end ∷ end ∷ end ∷ []) (0 ∷ 1 ∷ 8 ∷ []) 3
    ∷ kept reading (p:r ∷ bind-q ∷ ignorable q ∷ q:X ∷ must q ∷ end ∷ end ∷ []) (0 ∷ 6 ∷ []) 2
    ∷ kept reading (p:r ∷ bind-q ∷ ignorable q ∷ q:X ∷ p:W ∷ must q ∷ end ∷ end ∷ end ∷ []) (0 ∷ 8 ∷ []) 2
    -- on an AlternateContent, a selected branch and an unwrapped element that are not reached
    ∷ kept reading
    (p:r ∷ bind-q ∷ bind-p ∷ ignorable q ∷ q:X ∷ alternate ∷ must q ∷ choice ∷ requires p ∷ must q ∷ end ∷ end ∷ end ∷ end ∷ [])
    (0 ∷ 2 ∷ 13 ∷ []) 3
    ∷ kept reading
    (p:r ∷ bind-q ∷ ignorable q ∷ process q:W ∷ alternate ∷ choice ∷ requires q ∷ start urn:q W ∷ must q ∷ end ∷ end ∷ end
    ∷ end ∷ [])
    (0 ∷ 12 ∷ []) 2
    ∷ []

abbrev stray_children : List Case
stray_children =
    -- an understood child, an unwrapped child, an extension element
    reading
    (p:r ∷ bind-p ∷ ignorable p ∷ alternate ∷ p:W ∷ end ∷ choice ∷ requires p ∷ end ∷ end ∷ end ∷ [])
    (refuses (Mismatch 4 StrayChild))
    ∷ reading
    (p:r ∷ bind-p ∷ bind-q ∷ ignorable q ∷ process q:W ∷ alternate ∷ start urn:q W ∷ end ∷ choice ∷ requires p ∷ end ∷ end
    ∷ end ∷ [])
    (refuses (Mismatch 6 StrayChild))
    ∷ extending
    (p:r ∷ bind-p ∷ bind-q ∷ ignorable q ∷ alternate ∷ choice ∷ requires p ∷ end ∷ q:X ∷ end ∷ end ∷ end ∷ [])
    (refuses (Mismatch 8 StrayChild))
    -- what is inside such a child counts for nothing
    ∷ reading
    (p:r ∷ bind-p ∷ ignorable p ∷ alternate ∷ p:W ∷ s:W ∷ end ∷ end ∷ choice ∷ requires p ∷ end ∷ end ∷ end ∷ [])
    (refuses (Mismatch 4 StrayChild))
    -- an ignored child is none
    ∷ kept reading
    (p:r ∷ bind-p ∷ bind-q ∷ ignorable q ∷ alternate ∷ q:X ∷ text words ∷ end ∷ choice ∷ requires p ∷ text words ∷ end
    ∷ end ∷ end ∷ [])
    (0 ∷ 1 ∷ 10 ∷ 13 ∷ []) 4
    -- nor is one in an AlternateContent that is not reached
    ∷ kept reading
    (p:r ∷ bind-p ∷ bind-q ∷ ignorable p-and-q ∷ q:X ∷ alternate ∷ p:W ∷ end ∷ choice ∷ requires p ∷ end ∷ end ∷ end ∷ end ∷ [])
    (0 ∷ 1 ∷ 13 ∷ []) 3
    ∷ []

abbrev foreign_names : List Case
foreign_names =
    -- an attribute, an element, both
    reading (p:r ∷ attribute urn:s X words ∷ end ∷ []) (refuses (Mismatch 1 ForeignName))
    ∷ reading (p:r ∷ s:W ∷ end ∷ end ∷ []) (refuses (Mismatch 1 ForeignName))
    ∷ reading (s:W ∷ attribute urn:s X words ∷ end ∷ []) (refuses (Mismatch 0 ForeignName))
    -- in a selected Fallback, in an unwrapped element
    ∷ reading
    (p:r ∷ bind-q ∷ alternate ∷ choice ∷ requires q ∷ end ∷ fallback ∷ s:W ∷ end ∷ end ∷ end ∷ end ∷ [])
    (refuses (Mismatch 7 ForeignName))
    ∷ reading
    (p:r ∷ bind-q ∷ ignorable q ∷ process q:W ∷ start urn:q W ∷ s:W ∷ end ∷ end ∷ end ∷ []) (refuses (Mismatch 5 ForeignName))
    -- of several mismatches the one of lowest place
    ∷ reading (p:r ∷ bind-q ∷ attribute urn:s X words ∷ must q ∷ end ∷ []) (refuses (Mismatch 2 ForeignName))
    ∷ reading (p:r ∷ bind-q ∷ must q ∷ attribute urn:s X words ∷ end ∷ []) (refuses (Mismatch 2 cause.MustUnderstand))
    -- a refusal goes before a mismatch, wherever it comes
    ∷ reading (p:r ∷ attribute urn:s X words ∷ start MC Foo ∷ end ∷ end ∷ []) (refuses (UnknownName 2))
    -- in an unselected Choice
    ∷ kept reading (p:r ∷ bind-q ∷ alternate ∷ choice ∷ requires q ∷ s:W ∷ end ∷ end ∷ end ∷ end ∷ []) (0 ∷ 1 ∷ 9 ∷ []) 3
    -- names without namespace are not foreign
    ∷ all-kept reading (start none r ∷ attribute none W words ∷ end ∷ []) 3
    ∷ []

abbrev alternatives : List Case
alternatives =
    -- the first Choice that is understood
    kept reading
    (p:r ∷ bind-p ∷ alternate ∷ choice ∷ requires p ∷ text words ∷ end ∷ choice ∷ requires p ∷ text words ∷ end ∷ fallback
    ∷ text words ∷ end ∷ end ∷ end ∷ [])
    (0 ∷ 1 ∷ 5 ∷ 15 ∷ []) 4
    -- the second, the first not being understood
    ∷ kept reading
    (p:r ∷ bind-p ∷ bind-q ∷ alternate ∷ choice ∷ requires q ∷ text words ∷ end ∷ choice ∷ requires p ∷ text words ∷ end
    ∷ fallback ∷ text words ∷ end ∷ end ∷ end ∷ [])
    (0 ∷ 1 ∷ 2 ∷ 10 ∷ 16 ∷ []) 5
    -- all that is required
    ∷ kept reading
    (p:r ∷ bind-p ∷ bind-q ∷ alternate ∷ choice ∷ requires p-and-q ∷ text words ∷ end ∷ fallback ∷ text words ∷ end ∷ end
    ∷ end ∷ [])
    (0 ∷ 1 ∷ 2 ∷ 9 ∷ 12 ∷ []) 5
    -- XML is understood, MC never
    ∷ kept reading (p:r ∷ alternate ∷ choice ∷ requires xml ∷ text words ∷ end ∷ end ∷ end ∷ []) (0 ∷ 4 ∷ 7 ∷ []) 3
    ∷ kept reading (p:r ∷ bind-mc ∷ alternate ∷ choice ∷ requires mc ∷ text words ∷ end ∷ end ∷ end ∷ []) (0 ∷ 8 ∷ []) 2
    -- a Choice's own declaration
    ∷ kept reading (p:r ∷ alternate ∷ choice ∷ bind-p ∷ requires p ∷ text words ∷ end ∷ end ∷ end ∷ []) (0 ∷ 5 ∷ 8 ∷ []) 3
    -- which counts before one around it
    ∷ kept reading (p:r ∷ bind-p ∷ alternate ∷ choice ∷ declare p urn:q ∷ requires p ∷ text words ∷ end ∷ end ∷ end ∷ []) (0 ∷ 1 ∷ 9 ∷ []) 3
    -- a text directly in AlternateContent
    ∷ kept reading (p:r ∷ bind-p ∷ alternate ∷ text words ∷ choice ∷ requires p ∷ end ∷ end ∷ end ∷ []) (0 ∷ 1 ∷ 8 ∷ []) 3
    -- alternatives in a selected Fallback
    ∷ kept reading
    (p:r ∷ bind-p ∷ bind-q ∷ alternate ∷ choice ∷ requires q ∷ text words ∷ end ∷ fallback ∷ alternate ∷ choice
    ∷ requires p ∷ p:W ∷ end ∷ end
    ∷ fallback ∷ p:W ∷ end ∷ end ∷ end ∷ end ∷ end ∷ end ∷ [])
    (0 ∷ 1 ∷ 2 ∷ 12 ∷ 13 ∷ 22 ∷ []) 6
    -- alternatives in an unselected Fallback
    ∷ kept reading
    (p:r ∷ bind-p ∷ alternate ∷ choice ∷ requires p ∷ text words ∷ end ∷ fallback ∷ alternate ∷ choice ∷ requires p
    ∷ text words ∷ end ∷ end ∷ end ∷ end ∷ end ∷ [])
    (0 ∷ 1 ∷ 5 ∷ 16 ∷ []) 4
    ∷ []

abbrev scopes : List Case
scopes =
    -- q bound anew further inside: what was ignorable stays so
    kept reading (p:r ∷ bind-q ∷ ignorable q ∷ p:W ∷ declare q urn:s ∷ q:X ∷ end ∷ end ∷ end ∷ []) (0 ∷ 3 ∷ 4 ∷ 7 ∷ 8 ∷ []) 5
    -- and the nearest declaration counts
    ∷ kept reading (p:r ∷ bind-q ∷ p:W ∷ declare q urn:s ∷ ignorable q ∷ s:W ∷ end ∷ end ∷ end ∷ []) (0 ∷ 1 ∷ 2 ∷ 7 ∷ 8 ∷ []) 5
    -- Ignorable ends with its element
    ∷ reading (p:r ∷ p:W ∷ bind-s ∷ ignorable s ∷ end ∷ s:W ∷ end ∷ end ∷ []) (refuses (Mismatch 5 ForeignName))
    -- ProcessContent names a namespace and a local name: another local name, another namespace
    ∷ kept reading (p:r ∷ bind-q ∷ ignorable q ∷ process q:W ∷ q:X ∷ text words ∷ end ∷ end ∷ []) (0 ∷ 7 ∷ []) 2
    ∷ kept reading (p:r ∷ bind-q ∷ bind-s ∷ ignorable spread ∷ process q:W ∷ s:W ∷ text words ∷ end ∷ end ∷ []) (0 ∷ 8 ∷ []) 2
    -- the default prefix, for no namespace, for one, for an ignorable one
    ∷ all-kept reading (start none r ∷ declare none none ∷ end ∷ []) 3
    ∷ all-kept reading (p:r ∷ declare none urn:q ∷ end ∷ []) 3
    ∷ kept reading (p:r ∷ bind-q ∷ declare none urn:q ∷ ignorable q ∷ end ∷ []) (0 ∷ 4 ∷ []) 2
    -- XML is understood, ignorable or not
    ∷ kept reading (p:r ∷ ignorable xml ∷ attribute XML lang words ∷ end ∷ []) (0 ∷ 2 ∷ 3 ∷ []) 3
    -- all four blanks
    ∷ kept reading (p:r ∷ bind-q ∷ bind-s ∷ ignorable spread ∷ q:X ∷ end ∷ s:W ∷ end ∷ end ∷ []) (0 ∷ 8 ∷ []) 2
    ∷ []

abbrev extension_elements : List Case
extension_elements =
    -- what is inside is examined by no rule
    all-kept extending
    (p:r ∷ q:X ∷ attribute MC Foo words ∷ attribute MC Ignorable z ∷ choice ∷ text words ∷ start MC Foo ∷ end ∷ end ∷ end
    ∷ end ∷ []) 11
    -- one inside another
    ∷ all-kept extending (p:r ∷ q:X ∷ q:X ∷ end ∷ s:W ∷ end ∷ end ∷ end ∷ []) 8
    -- at the root, with a foreign attribute
    ∷ all-kept extending (q:X ∷ attribute urn:s W words ∷ text words ∷ end ∷ []) 4
    -- in an ignored element, in an unselected branch
    ∷ kept extending (p:r ∷ bind-q ∷ ignorable q ∷ start urn:q W ∷ q:X ∷ text words ∷ end ∷ end ∷ end ∷ []) (0 ∷ 8 ∷ []) 2
    ∷ kept extending (p:r ∷ bind-q ∷ alternate ∷ choice ∷ requires q ∷ q:X ∷ end ∷ end ∷ end ∷ end ∷ []) (0 ∷ 1 ∷ 9 ∷ []) 3
    -- in an unwrapped element
    ∷ kept extending
    (p:r ∷ bind-q ∷ ignorable q ∷ process q:W ∷ start urn:q W ∷ q:X ∷ text words ∷ end ∷ end ∷ end ∷ []) (0 ∷ 5 ∷ 6 ∷ 7 ∷ 9 ∷ []) 5
    -- behind it the rules hold again
    ∷ extending (p:r ∷ q:X ∷ end ∷ s:W ∷ end ∷ end ∷ []) (refuses (Mismatch 3 ForeignName))
    ∷ []

abbrev roots : List Case
roots =
    -- ignored, unwrapped, an AlternateContent
    kept reading (start urn:q r ∷ bind-q ∷ ignorable q ∷ text words ∷ end ∷ []) [] 0
    ∷ kept reading
    (start urn:q W ∷ bind-q ∷ ignorable q ∷ process q:W ∷ text words ∷ p:W ∷ end ∷ p:W ∷ end ∷ end ∷ []) (4 ∷ 5 ∷ 6 ∷ 7 ∷ 8 ∷ []) 5
    ∷ kept reading (alternate ∷ bind-p ∷ choice ∷ requires p ∷ p:W ∷ end ∷ text words ∷ end ∷ end ∷ []) (4 ∷ 5 ∷ 6 ∷ []) 3
    ∷ []

abbrev pub matched_cases : List Case
matched_cases = must_understand ++ stray_children ++ foreign_names ++ alternatives ++ scopes ++ extension_elements ++ roots
