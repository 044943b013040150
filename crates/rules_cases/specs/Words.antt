-- The texts of the worked cases, each under the name by which its number is written. The namespace urn:p is understood; urn:q and
-- urn:s are not.
use Rattle.std.specs.Prelude.{ℕ, zero, suc, ◌+◌, List, [], ◌∷◌, ◌++◌, map, codes, Result}
use Rattle.std.specs.List.{range_with_len}
use Rattle.text.specs.Bytes.{Bytes}
use Rattle.text.specs.Names.{mc_namespace, xml_namespace}
use Rattle.record.specs.declared.row.Row.{Row}
use Rattle.record.specs.declared.refusal.Refusal.{Refusal}
use Rattle.rules.specs.Records.{Sealed}
use Rattle.rules_cases.specs.Case.{Case, start, declare, attribute, keeps}

-- so many copies, one behind the other
abbrev pub copies : {A : Type 0} → ℕ → List A → List A
copies zero xs = []
copies (suc n) xs = xs ++ copies n xs

abbrev pub none : ℕ
none = 0

abbrev pub urn:p : ℕ
urn:p = 1

abbrev pub urn:q : ℕ
urn:q = 2

abbrev pub urn:s : ℕ
urn:s = 3

abbrev pub MC : ℕ
MC = 4

abbrev pub XML : ℕ
XML = 5

abbrev pub p : ℕ
p = 6

abbrev pub q : ℕ
q = 7

abbrev pub s : ℕ
s = 8

abbrev pub z : ℕ
z = 9

abbrev pub mc : ℕ
mc = 10

abbrev pub xml : ℕ
xml = 11

abbrev pub Ignorable : ℕ
Ignorable = 12

abbrev pub ProcessContent : ℕ
ProcessContent = 13

abbrev pub MustUnderstand : ℕ
MustUnderstand = 14

abbrev pub AlternateContent : ℕ
AlternateContent = 15

abbrev pub Choice : ℕ
Choice = 16

abbrev pub Fallback : ℕ
Fallback = 17

abbrev pub Requires : ℕ
Requires = 18

abbrev pub r : ℕ
r = 19

abbrev pub W : ℕ
W = 20

abbrev pub X : ℕ
X = 21

abbrev pub Foo : ℕ
Foo = 22

abbrev pub base : ℕ
base = 23

abbrev pub lang : ℕ
lang = 24

abbrev pub space : ℕ
space = 25

abbrev pub id : ℕ
id = 26

abbrev pub words : ℕ
words = 27

abbrev pub p-and-q : ℕ
p-and-q = 28

abbrev pub q-and-z : ℕ
q-and-z = 29

abbrev pub q:W : ℕ
q:W = 30

abbrev pub q:W-and-s:W : ℕ
q:W-and-s:W = 31

abbrev pub z:W : ℕ
z:W = 32

abbrev pub xml:W : ℕ
xml:W = 33

abbrev pub mc:W : ℕ
mc:W = 34

abbrev pub star:W : ℕ
star:W = 35

abbrev pub q:star : ℕ
q:star = 36

abbrev pub q:starred : ℕ
q:starred = 37

abbrev pub two-colons : ℕ
two-colons = 38

abbrev pub only-colon : ℕ
only-colon = 39

abbrev pub no_local : ℕ
no_local = 40

abbrev pub no-prefix : ℕ
no-prefix = 41

abbrev pub spread : ℕ
spread = 42

abbrev pub blanks : ℕ
blanks = 43

abbrev pub many-q : ℕ
many-q = 44

abbrev pub too-many-q : ℕ
too-many-q = 45

abbrev pub many-q:W : ℕ
many-q:W = 46

abbrev pub too-many-q:W : ℕ
too-many-q:W = 47

-- 33 names more behind these
abbrev pub x : ℕ → ℕ
x n = 48 + n

-- spread is q and s among all four blanks
abbrev pub texts : List Bytes
texts =
    []
    ∷ codes "urn:p"
    ∷ codes "urn:q"
    ∷ codes "urn:s"
    ∷ mc_namespace
    ∷ xml_namespace
    ∷ codes "p"
    ∷ codes "q"
    ∷ codes "s"
    ∷ codes "z"
    ∷ codes "mc"
    ∷ codes "xml"
    ∷ codes "Ignorable"
    ∷ codes "ProcessContent"
    ∷ codes "MustUnderstand"
    ∷ codes "AlternateContent"
    ∷ codes "Choice"
    ∷ codes "Fallback"
    ∷ codes "Requires"
    ∷ codes "r"
    ∷ codes "W"
    ∷ codes "X"
    ∷ codes "Foo"
    ∷ codes "base"
    ∷ codes "lang"
    ∷ codes "space"
    ∷ codes "id"
    ∷ codes "words"
    ∷ codes "p q"
    ∷ codes "q z"
    ∷ codes "q:W"
    ∷ codes "q:W s:W"
    ∷ codes "z:W"
    ∷ codes "xml:W"
    ∷ codes "mc:W"
    ∷ codes "*:W"
    ∷ codes "q:*"
    ∷ codes "q:*a"
    ∷ codes "q:W:X"
    ∷ codes ":"
    ∷ codes "q:"
    ∷ codes ":W"
    ∷ (32 ∷ 113 ∷ 9 ∷ 13 ∷ 10 ∷ 115 ∷ 10 ∷ [])
    ∷ (32 ∷ 9 ∷ 10 ∷ 13 ∷ [])
    ∷ copies 128 (codes "q ")
    ∷ copies 129 (codes "q ")
    ∷ copies 128 (codes "q:W ")
    ∷ copies 129 (codes "q:W ")
    ∷ map (λ (n : ℕ). 120 ∷ (65 + n) ∷ []) (range_with_len 0 33)

-- a record with these texts
abbrev pub reading : List Row → Result Sealed Refusal → Case
reading rows expected = record { texts = texts; understood = codes "urn:p" ∷ []; extensions = []; rows = rows; expected = expected }

-- where urn:q is understood too
abbrev pub reading-q : List Row → Result Sealed Refusal → Case
reading-q rows expected =
    record { texts = texts; understood = codes "urn:p" ∷ codes "urn:q" ∷ []; extensions = []; rows = rows; expected = expected }

-- with the element X of urn:q on the extension list
abbrev pub extending : List Row → Result Sealed Refusal → Case
extending rows expected =
    record { texts = texts; understood = codes "urn:p" ∷ []; extensions = (codes "urn:q", codes "X") ∷ []; rows = rows; expected = expected }

-- rows that are kept at these places, so many
abbrev pub kept : (List Row → Result Sealed Refusal → Case) → List Row → List ℕ → ℕ → Case
kept how rows places count = how rows (keeps rows places count)

-- so many rows that are all kept
abbrev pub all-kept : (List Row → Result Sealed Refusal → Case) → List Row → ℕ → Case
all-kept how rows count = how rows (keeps rows (range_with_len 0 count) count)

-- Tags and declarations that are often used.

abbrev pub p:r : Row
p:r = start urn:p r

abbrev pub p:W : Row
p:W = start urn:p W

abbrev pub q:X : Row
q:X = start urn:q X

abbrev pub s:W : Row
s:W = start urn:s W

abbrev pub alternate : Row
alternate = start MC AlternateContent

abbrev pub choice : Row
choice = start MC Choice

abbrev pub fallback : Row
fallback = start MC Fallback

abbrev pub bind-p : Row
bind-p = declare p urn:p

abbrev pub bind-q : Row
bind-q = declare q urn:q

abbrev pub bind-s : Row
bind-s = declare s urn:s

abbrev pub bind-mc : Row
bind-mc = declare mc MC

abbrev pub ignorable : ℕ → Row
ignorable list = attribute MC Ignorable list

abbrev pub process : ℕ → Row
process list = attribute MC ProcessContent list

abbrev pub must : ℕ → Row
must list = attribute MC MustUnderstand list

abbrev pub requires : ℕ → Row
requires list = attribute none Requires list
