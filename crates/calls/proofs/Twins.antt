-- Two readers that get the same calls.
use Rattle.std.proofs.Common.{◌≡◌, ℕ, suc, ◌<◌, ◌≤◌, Bool, true, false, cond, eqb, ◌⊎◌, List, [], ◌∷◌, length, Some, None, Ok, Err, Option, Result, sym, refl, ap, ◌∙◌, subst, subst₂, inl, inr, arith}
use Rattle.std.proofs.lemmas.Bool.{ne_eqb}
use Rattle.std.proofs.lemmas.Option.{same_Some}
use Rattle.text.specs.Bytes.{Bytes}
use Rattle.record.specs.declared.row.Row.{Row}
use Rattle.record.specs.declared.row.PlacedRow.{PlacedRow}
use Rattle.record.specs.declared.refusal.Refusal.{Refusal}
use Rattle.file.specs.Form.{Contents, opened}
use Rattle.knowledge.specs.Understood.{Knows}
use Rattle.card.specs.Cards.{Name}
use Rattle.sheet.specs.Sheets.{Model}
use Rattle.rules.specs.Faults.{first}
use Rattle.rules.specs.Order.{has_ended}
use Rattle.rules.specs.Lists.{In}
use Rattle.rules.specs.Laws.{Wider}
use Rattle.rules.proofs.Wider.{more_knowledge_more_rows}
use Rattle.calls.specs.Calls.{Taken, taken, Begun, begun, with_row, tokens_of, Reading, idle, active, spoilt, Out, begin_on, row_on, finish_on, abandon_on, file_on, Call, begin, row, file, finish, abandon, step}
use Rattle.calls.specs.Book.{New, after, answer_to, events, Book, kept_in, record_in, book, begun_at, begun_by}
use Rattle.calls.specs.Law.{SealedLast, Sealed, SameCall, begins, rows, files, finishes, abandons, SameCalls, none, more, LiesEarlier, StayWithMore}
use Rattle.calls.proofs.Cases.{faults_at, RowCase, row_case, Sealable, FinishCase, finish_case}
use Rattle.calls.proofs.Holds.{Holds, holds, FileCase, file_case}
use Rattle.calls.proofs.Seals.{last-kept, sealed-kept}

-- The record that call number i begins, as far as the calls alone tell: rows are accepted that may come next, and a finish behind the
-- root's end closes it. Neither knowledge nor sheet has a say.

tried : Option Refusal → Row → Begun → Begun
tried None r b = with_row r b
tried (Some e) r b = b

row_onto : Row → Option Begun → Option Begun
row_onto r None = None
row_onto r (Some b) = Some (tried (first (faults_at b r)) r b)

unless_ended : Option Begun → Option Begun
unless_ended None = None
unless_ended (Some b) = cond (has_ended (tokens_of b)) None (Some b)

onward : Call → Bool → Option Begun → Option Begun
onward (begin t) here o = cond here (Some (begun t [])) o
onward (row r) here o = row_onto r o
onward (file bytes K ext) here o = o
onward finish here o = unless_ended o
onward abandon here o = None

told : ℕ → List Call → Option Begun
told i [] = None
told i (c ∷ past) = onward c (eqb (length past) i) (told i past)

-- before its begin, and once it is closed, there is none

onward-none : (c : Call) (b : Bool) → b ≡ false → onward c b None ≡ None
unfolding onward row_onto unless_ended
onward-none c b h = grind arith

told-before : (i : ℕ) (calls : List Call) → length calls ≤ i → told i calls ≡ None
unfolding told
told-before i [] h = refl
told-before i (c ∷ past) h =
    ap (onward c (eqb (length past) i)) (told-before i past (omega arith)) ∙ onward-none c _ (ne_eqb (length past) i (λ q. omega arith))

-- Under one reader: the record that it reads is the one told.

abbrev Tracks : Reading → ℕ → ℕ → Option Begun → Type 0
Tracks idle i n o = Unit {0}
Tracks (active b) i n o = (i < n) × (o ≡ Some b)
Tracks (spoilt b) i n o = Unit {0}

module _ (n i : ℕ) (f : ℕ → Option Begun) where
  abbrev Onward : Call → Out → Type 0
  Onward c o = Tracks o.reading (begun_at c o.answer n i) (suc n) (onward c (eqb n (begun_at c o.answer n i)) (f (begun_at c o.answer n i)))

  begin-tracks : (rd : Reading) (t : Taken) (m : Model) → Tracks rd i n (f i) → Onward (begin t) (begin_on rd t m)
  unfolding begin_on onward
  begin-tracks rd t m h = grind arith

  row-tracks : (rd : Reading) (r : Row) (m : Model) (k : Book) → Holds rd m k → Tracks rd i n (f i) → Onward (row r) (row_on rd r m)
  unfolding onward row_onto tried
  row-tracks idle r m k w h = unfold row_on in tt
  row-tracks (spoilt b) r m k w h = unfold row_on in tt
  row-tracks (active b) r m k w h = go (row_on (active b) r m) (row_case b r m w.2)
    where
      below : i < suc n
      below = let l = h.0 in omega arith

      go : (o : Out) → RowCase b r m o → Onward (row r) o
      go o x = grind arith

  finish-tracks : (rd : Reading) (m : Model) (k : Book) → Holds rd m k → Tracks rd i n (f i) → Onward finish (finish_on rd m)
  unfolding onward unless_ended
  finish-tracks idle m k w h = unfold finish_on in tt
  finish-tracks (spoilt b) m k w h = unfold finish_on in tt
  finish-tracks (active b) m k w h = go (finish_on (active b) m) (finish_case b m w.2)
    where
      below : i < suc n
      below = let l = h.0 in omega arith

      go : (o : Out) → FinishCase b m o → Onward finish o
      go o y = grind arith

  abandon-tracks : (rd : Reading) (m : Model) → Onward abandon (abandon_on rd m)
  unfolding abandon_on
  abandon-tracks rd m = grind arith

  file-tracks : (rd : Reading) (bytes : Bytes) (K : Knows) (ext : List Name) (m : Model) (k : Book) → Holds rd m k → Tracks rd i n (f i)
      → Onward (file bytes K ext) (file_on rd bytes K ext m)
  unfolding onward
  file-tracks (active b) bytes K ext m k w h = unfold file_on in let l = h.0 in (omega arith, h.1)
  file-tracks (spoilt b) bytes K ext m k w h = unfold file_on in tt
  file-tracks idle bytes K ext m k w h = go (file_on idle bytes K ext m) (file_case bytes K ext m w.2)
    where
      go : (o : Out) → FileCase (record_in (opened bytes) K ext) m o → Onward (file bytes K ext) o
      go o (inl x) = subst (Onward (file bytes K ext)) (sym x.2) tt
      go o (inr x) = subst (Onward (file bytes K ext)) (sym x.3) tt

  step-tracks : (c : Call) (rd : Reading) (m : Model) (k : Book) → Holds rd m k → Tracks rd i n (f i) → Onward c (step c rd m)
  unfolding step
  step-tracks (begin t) rd m k w h = begin-tracks rd t m h
  step-tracks (row r) rd m k w h = row-tracks rd r m k w h
  step-tracks (file bytes K ext) rd m k w h = file-tracks rd bytes K ext m k w h
  step-tracks finish rd m k w h = finish-tracks rd m k w h
  step-tracks abandon rd m k w h = abandon-tracks rd m

length-events : (new : New) (calls : List Call) → length (events new calls) ≡ length calls
length-events new [] = refl
length-events new (c ∷ past) = ap suc (length-events new past)

module _ (new : New) where
  tracks : (calls : List Call) → Tracks (after new calls).reading (begun_by (events new calls)) (length calls) (told (begun_by (events new calls)) calls)
  unfolding told
  tracks [] = tt
  tracks (c ∷ past) =
      subst
      (λ l. Tracks (after new (c ∷ past)).reading (begun_at c (answer_to new c past) l (begun_by (events new past))) (suc (length past))
      (onward c (eqb (length past) (begun_at c (answer_to new c past) l (begun_by (events new past)))) (told (begun_at c (answer_to new c past) l (begun_by (events new past))) past)))
      (sym (length-events new past))
      (step-tracks (length past) (begun_by (events new past)) (λ j. told j past) c (after new past).reading (after new past).sheet (book (events new past)) (holds new past) (tracks past))

  active-told : (calls : List Call) (b : Begun) → (after new calls).reading ≡ active b
      → (begun_by (events new calls) < length calls) × (told (begun_by (events new calls)) calls ≡ Some b)
  active-told calls b e = subst (λ rd. Tracks rd (begun_by (events new calls)) (length calls) (told (begun_by (events new calls)) calls)) e (tracks calls)

  -- a record that finish seals
  finish-told : (past : List Call) (i : ℕ) (b : Begun) (sealed : List PlacedRow) → SealedLast new finish past i b sealed
      → (i < length past) × (told i past ≡ Some b)
  finish-told past i b sealed h =
      subst (λ j. (j < length past) × (told j past ≡ Some b)) (sym h.0.0) (active-told past b (last-kept new finish past i b sealed h).was)

  -- Once it is sealed, it is told no more.
  last-told : (c : Call) (past : List Call) (i : ℕ) (b : Begun) (sealed : List PlacedRow) → SealedLast new c past i b sealed
      → (i < length (c ∷ past)) × (told i (c ∷ past) ≡ None)
  unfolding told onward unless_ended
  last-told (begin t) past i b sealed h = absurd h.0
  last-told (row r) past i b sealed h = absurd h.0
  last-told abandon past i b sealed h = absurd h.0
  last-told (file bytes K ext) past i b sealed h =
      let e = h.0.0 ∙ length-events new past in
      (omega arith, told-before i past (omega arith))
  last-told finish past i b sealed h =
      let t = finish-told past i b sealed h in let l = t.0 in
      (omega arith, ap unless_ended t.1 ∙ ap (λ y. cond y None (Some b)) (last-kept new finish past i b sealed h).sealable.ended)

  sealed-told : (calls : List Call) (i : ℕ) (b : Begun) (sealed : List PlacedRow) → Sealed new calls i b sealed
      → (i < length calls) × (told i calls ≡ None)
  unfolding told
  sealed-told [] i b sealed h = absurd h
  sealed-told (c ∷ past) i b sealed (inr h) = last-told c past i b sealed h
  sealed-told (c ∷ past) i b sealed (inl h) =
      let t = sealed-told past i b sealed h in let l = t.0 in
      (omega arith, ap (onward c (eqb (length past) i)) t.1 ∙ onward-none c _ (ne_eqb (length past) i (λ q. omega arith)))

-- Under two readers: what is told of them differs in the knowledge only.

data Like : Begun → Begun → Type 0 where
  like : (texts : List Bytes) (ext : List Name) (rs : List Row) {K K' : Knows} → Wider K K'
      → Like (begun (taken texts K ext) rs) (begun (taken texts K' ext) rs)

data Alike : Option Begun → Option Begun → Type 0 where
  neither : Alike None None
  alike : {b b' : Begun} → Like b b' → Alike (Some b) (Some b')

row-like : (r : Row) {b b' : Begun} → Like b b' → Like (tried (first (faults_at b r)) r b) (tried (first (faults_at b' r)) r b')
unfolding tried
row-like r (like texts ext rs {K} {K'} w) = go (first (faults_at (begun (taken texts K ext) rs) r))
  where
    go : (x : Option Refusal) → Like (tried x r (begun (taken texts K ext) rs)) (tried x r (begun (taken texts K' ext) rs))
    go None = like texts ext (r ∷ rs) w
    go (Some e) = like texts ext rs w

row-alike : (r : Row) {o o' : Option Begun} → Alike o o' → Alike (row_onto r o) (row_onto r o')
unfolding row_onto
row-alike r neither = neither
row-alike r (alike a) = alike (row-like r a)

ended-like : {b b' : Begun} → Like b b' → Alike (cond (has_ended (tokens_of b)) None (Some b)) (cond (has_ended (tokens_of b')) None (Some b'))
ended-like (like texts ext rs {K} {K'} w) = go (has_ended (tokens_of (begun (taken texts K ext) rs)))
  where
    go : (x : Bool) → Alike (cond x None (Some (begun (taken texts K ext) rs))) (cond x None (Some (begun (taken texts K' ext) rs)))
    go true = neither
    go false = alike (like texts ext rs w)

ended-alike : {o o' : Option Begun} → Alike o o' → Alike (unless_ended o) (unless_ended o')
unfolding unless_ended
ended-alike neither = neither
ended-alike (alike a) = ended-like a

onward-alike : {c d : Call} → SameCall c d → (here : Bool) {o o' : Option Begun} → Alike o o' → Alike (onward c here o) (onward d here o')
unfolding onward
onward-alike (begins texts ext w) true a = alike (like texts ext [] w)
onward-alike (begins texts ext w) false a = a
onward-alike (rows r) here a = row-alike r a
onward-alike (files bytes ext w) here a = a
onward-alike finishes here a = ended-alike a
onward-alike abandons here a = neither

same_length : {calls other : List Call} → SameCalls calls other → length calls ≡ length other
same_length none = refl
same_length (more c s) = ap suc (same_length s)

told-alike : (i : ℕ) {calls other : List Call} → SameCalls calls other → Alike (told i calls) (told i other)
unfolding told
told-alike i none = neither
told-alike i (more {c} {d} {past} {other} s ss) =
    subst (λ l. Alike (onward c (eqb (length past) i) (told i past)) (onward d (eqb l i) (told i other))) (same_length ss)
    (onward-alike s (eqb (length past) i) (told-alike i ss))

both_told : {o o' : Option Begun} → Alike o o' → (b b' : Begun) → o ≡ Some b → o' ≡ Some b' → Like b b'
both_told h b b' x y = grind arith

one_told : {o o' : Option Begun} → Alike o o' → (b : Begun) → ((o ≡ None) × (o' ≡ Some b)) ⊎ ((o ≡ Some b) × (o' ≡ None)) → ⊥
one_told a b h = grind arith

file-like : (c : Result Contents Refusal) (ext : List Name) (K K' : Knows) → Wider K K' → (b b' : Begun)
    → record_in c K ext ≡ Some b → record_in c K' ext ≡ Some b' → Like b b'
file-like (Err e) ext K K' w b b' p q = absurd (cc)
file-like (Ok f) ext K K' w b b' p q = subst₂ Like (same_Some _ b p) (same_Some _ b' q) (like _ ext _ w)

module _ (new new' : New) where
  both-last : {c d : Call} {past other : List Call} → SameCall c d → SameCalls past other → (i : ℕ) (b b' : Begun) (xs ys : List PlacedRow)
      → SealedLast new c past i b xs → SealedLast new' d other i b' ys → Like b b'
  both-last (begins texts ext w) ss i b b' xs ys h k = absurd h.0
  both-last (rows r) ss i b b' xs ys h k = absurd h.0
  both-last abandons ss i b b' xs ys h k = absurd h.0
  both-last (files bytes ext {knows = K} {more = K'} w) ss i b b' xs ys h k = file-like (opened bytes) ext K K' w b b' h.0.1 k.0.1
  both-last {past = past} {other = other} finishes ss i b b' xs ys h k =
      both_told (told-alike i ss) b b' (finish-told new past i b xs h).1 (finish-told new' other i b' ys k).1

  -- what one reader has sealed the other does not seal later
  not-later : (d : Call) {past other : List Call} → SameCalls past other → (i : ℕ) (b b' : Begun) (xs ys : List PlacedRow)
      → Sealed new past i b xs → SealedLast new' d other i b' ys → ⊥
  not-later (begin t) ss i b b' xs ys h k = k.0
  not-later (row r) ss i b b' xs ys h k = k.0
  not-later abandon ss i b b' xs ys h k = k.0
  not-later (file bytes K ext) {past} {other} ss i b b' xs ys h k =
      let l = (sealed-told new past i b xs h).0 in let e = k.0.0 ∙ length-events new' other in let q = same_length ss in omega arith
  not-later finish {past} {other} ss i b b' xs ys h k =
      one_told (told-alike i ss) b' (inl ((sealed-told new past i b xs h).1, (finish-told new' other i b' ys k).1))

  not-before : (c : Call) {past other : List Call} → SameCalls past other → (i : ℕ) (b b' : Begun) (xs ys : List PlacedRow)
      → SealedLast new c past i b xs → Sealed new' other i b' ys → ⊥
  not-before (begin t) ss i b b' xs ys h k = h.0
  not-before (row r) ss i b b' xs ys h k = h.0
  not-before abandon ss i b b' xs ys h k = h.0
  not-before (file bytes K ext) {past} {other} ss i b b' xs ys h k =
      let l = (sealed-told new' other i b' ys k).0 in let e = h.0.0 ∙ length-events new past in let q = same_length ss in omega arith
  not-before finish {past} {other} ss i b b' xs ys h k =
      one_told (told-alike i ss) b (inr ((finish-told new past i b xs h).1, (sealed-told new' other i b' ys k).1))

  -- so they have sealed the same record
  both-sealed : {calls other : List Call} → SameCalls calls other → (i : ℕ) (b b' : Begun) (xs ys : List PlacedRow)
      → Sealed new calls i b xs → Sealed new' other i b' ys → Like b b'
  both-sealed none i b b' xs ys h k = absurd h
  both-sealed (more s ss) i b b' xs ys (inl h) (inl k) = both-sealed ss i b b' xs ys h k
  both-sealed (more {c} {d} s ss) i b b' xs ys (inl h) (inr k) = absurd (not-later d ss i b b' xs ys h k)
  both-sealed (more {c} {d} s ss) i b b' xs ys (inr h) (inl k) = absurd (not-before c ss i b b' xs ys h k)
  both-sealed (more s ss) i b b' xs ys (inr h) (inr k) = both-last s ss i b b' xs ys h k

like-stays : {b b' : Begun} → Like b b' → Sealable b → (x : PlacedRow) → In x (kept_in b) → In x (kept_in b') ⊎ LiesEarlier b b' x
like-stays (like texts ext rs {K} {K'} w) s x i = more_knowledge_more_rows texts K K' ext rs w s.faultless x i

pub stay_with_more : (new : New) (calls : List Call) → StayWithMore new calls
stay_with_more new calls new' calls' ss i b b' xs ys h k x m = go (like-stays (both-sealed new new' ss i b b' xs ys h k) p.1 x (subst (In x) p.0 m))
  where
    p : (xs ≡ kept_in b) × Sealable b
    p = sealed-kept new calls i b xs h

    q : ys ≡ kept_in b'
    q = (sealed-kept new' calls' i b' ys k).0

    go : In x (kept_in b') ⊎ LiesEarlier b b' x → In x ys ⊎ LiesEarlier b b' x
    go (inl y) = inl (subst (In x) (sym q) y)
    go (inr y) = inr y
