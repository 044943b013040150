-- A record without refusal or mismatch keeps, outside extension elements, understood names only.
use Rattle.std.proofs.Common.{◌≡◌, ℕ, zero, Bool, true, false, ◌&&◌, ◌⊎◌, List, [], ◌∷◌, ◌++◌, reverse, Some, sym, refl, ap, ◌∙◌, subst, inl, inr, arith}
use mathlib.Core.Bool.{false≢true}
use Rattle.text.specs.Bytes.{Bytes}
use Rattle.record.specs.declared.row.Row.{Row}
use Rattle.record.specs.declared.row.PlacedRow.{PlacedRow}
use Rattle.record.specs.declared.row.Kind.{Kind}
use Rattle.record.specs.declared.row.Kind.TheVariants.{Declaration, Text, End}
use Rattle.record.specs.Rows.{kind_of}
use Rattle.record.specs.declared.refusal.Cause.{Cause}
use Rattle.record.specs.declared.refusal.Cause.TheVariants.{ForeignName}
use Rattle.file.specs.Form.{text_at}
use Rattle.knowledge.specs.Understood.{Knows}
use Rattle.card.specs.Cards.{Name}
use Rattle.items.specs.Items.{is_empty}
use Rattle.rules.specs.Elements.{Decl, Attr, Tag, Token, tag, text, end, tokens, children, Element, element, around}
use Rattle.rules.specs.Scope.{Scope, in_extension, scope}
use Rattle.rules.specs.Steps.{when, is_foreign, is_kept_attr, kept_decls, kept_attrs, kept_tag, tag_kept, kept, extension_kept, kept_of, kept_rows}
use Rattle.rules.specs.Mismatches.{mark, attr_marks, heeds, element_marks, marks_of, mismatches}
use Rattle.rules.specs.Lists.{In}
use Rattle.rules.specs.Laws.{Stands, StandsOnly, has_name, Fine, UnderstoodOnly}
use Rattle.rules.proofs.Members.{left_nil, right_nil, in_append, in_sub, in_when}
use Rattle.rules.proofs.Rows.{IsKind, DeclsTrue, AttrsTrue, TokenTrue, AllTrue, all_true}
use Rattle.rules.proofs.Rise.{tag-part}
use Rattle.rules.proofs.Once.{stands_only}
use Rattle.rules.proofs.Whole.{whole}

no_mark : (b : Bool) (p : ℕ) (c : Cause) → mark b p c ≡ [] → b ≡ false
unfolding mark
no_mark b p c h = grind arith

is_nil : (b : Bytes) → is_empty b ≡ true → b ≡ []
unfolding is_empty
is_nil b h = grind arith

second : (a b : Bool) → a ≡ true → (a && b) ≡ false → b ≡ false
second a b e f = grind arith

fine : (K : Knows) (ns : Bytes) → is_foreign K ns ≡ false → Fine K ns
unfolding is_foreign
fine K ns e = go (is_empty ns) refl
  where
    go : (x : Bool) → is_empty ns ≡ x → Fine K ns
    go true h = inl (is_nil ns h)
    go false h = inr (inr (grind arith))

pub out_in : (ext : List Name) (e : Element) (out : List Element) → in_extension ext (e ∷ out) ≡ false → in_extension ext out ≡ false
unfolding in_extension
out_in ext e out h = grind arith

pub out_of_ext : (K : Knows) (ext : List Name) (at : List Element) → in_extension ext at ≡ false → extension_kept K ext at ≡ false
unfolding in_extension extension_kept
out_of_ext K ext [] e = refl
out_of_ext K ext (n ∷ o) e = let h = out_of_ext K ext o in grind arith

module _ (K : Knows) (ext : List Name) (texts : List Bytes) where
  -- the row is a declaration, a text or an end
  abbrev Nameless : PlacedRow → Type 0
  Nameless x = IsKind Declaration x ⊎ IsKind Text x ⊎ IsKind End x

  abbrev Good : PlacedRow → List Element → Type 0
  Good x at = (in_extension ext at ≡ true) ⊎ Fine K (text_at texts x.row.a)

  abbrev Seen : PlacedRow → List Token → Type 0
  Seen x toks = ((at : List Element) × Stands x at toks × Good x at) ⊎ Nameless x

  seen-on : (x : PlacedRow) (t : Token) (past : List Token) → Seen x past → Seen x (t ∷ past)
  seen-on x t past h = grind arith

  decl_one : (b : Bool) (x : PlacedRow) (d : Decl) (rest : List PlacedRow) → IsKind Declaration d.placed
      → (In x rest → IsKind Declaration x) → In x (when b d.placed ++ rest) → IsKind Declaration x
  decl_one b x d rest h f k = go (in_append x (when b d.placed) rest k)
    where
      go : In x (when b d.placed) ⊎ In x rest → IsKind Declaration x
      go (inl a) = subst (IsKind Declaration) (sym (in_when x d.placed b a).0) h
      go (inr a) = f a

  decl_seen : (igs : List Bytes) (x : PlacedRow) (ds : List Decl) → DeclsTrue ds → In x (kept_decls K igs ds) → IsKind Declaration x
  unfolding kept_decls
  decl_seen igs x [] h k = absurd k
  decl_seen igs x (d ∷ ds) h k = decl_one _ x d (kept_decls K igs ds) h.0 (decl_seen igs x ds h.1) k

  attr_seen : (heed : Bool) (s : Scope) (x : PlacedRow) (xs : List Attr) → AttrsTrue texts xs → attr_marks K heed true s xs ≡ []
      → In x (kept_attrs K s.ignorables xs) → Fine K (text_at texts x.row.a)
  unfolding kept_attrs attr_marks
  attr_seen heed s x [] h m k = absurd k
  attr_seen heed s x (y ∷ ys) h m k =
      go (in_append x (when (is_kept_attr K s.ignorables y) y.placed) (kept_attrs K s.ignorables ys) k) (attr_seen heed s x ys h.1 (right_nil _ _ m))
    where
      go : In x (when (is_kept_attr K s.ignorables y) y.placed) ⊎ In x (kept_attrs K s.ignorables ys)
          → (In x (kept_attrs K s.ignorables ys) → Fine K (text_at texts x.row.a)) → Fine K (text_at texts x.row.a)
      go (inl a) f =
          let w = in_when x y.placed _ a in
          let z : (true && is_kept_attr K s.ignorables y && is_foreign K y.namespace) ≡ false = no_mark (true && is_kept_attr K s.ignorables y && is_foreign K y.namespace) y.placed.place ForeignName (right_nil _ _ (left_nil _ _ m)) in
          let q : is_foreign K y.namespace ≡ false = second _ _ w.1 z in
          subst (λ (p : PlacedRow). Fine K (text_at texts p.row.a)) (sym w.0) (subst (Fine K) h.0.1 (fine K y.namespace q))
      go (inr a) f = f a

  tag-seen : (t : Tag) (past : List Token) (x k : Bool) → TokenTrue texts (tag t) → let at : List Element = element t (children zero past) ∷ around past in
      (extension_kept K ext at ≡ x) → (kept K ext at ≡ k) → element_marks K ext at ≡ [] → (p : PlacedRow) → In p (tag_kept K x k (scope ext at).ignorables t) → Seen p (tag t ∷ past)
  unfolding tag_kept kept_tag element_marks element
  tag-seen t past true k h e f m p i =
      let at : List Element = element t (children zero past) ∷ around past in
      let o = out_of_ext K ext at in
      inl (at, inl (i, refl), inl (grind arith))
  tag-seen t past false true h e f m p (inl i) =
      let at : List Element = element t (children zero past) ∷ around past in
      let z : (kept K ext at && is_foreign K t.namespace) ≡ false = no_mark (kept K ext at && is_foreign K t.namespace) t.placed.place ForeignName (right_nil _ _ (left_nil _ _ m)) in
      let y : is_foreign K t.namespace ≡ false = second _ _ f z in
      let w : Fine K (text_at texts t.placed.row.a) = subst (Fine K) h.0.1 (fine K t.namespace y) in
      inl (at, inl (in_sub p (tag-part K (scope ext at).ignorables t) (inl i), refl), inr (subst (λ (q : PlacedRow). Fine K (text_at texts q.row.a)) (sym i) w))
  tag-seen t past false true h e f m p (inr i) = go (in_append p (kept_decls K igs t.decls) (kept_attrs K igs t.attrs) i)
    where
      at : List Element
      at = element t (children zero past) ∷ around past

      igs : List Bytes
      igs = (scope ext at).ignorables

      go : In p (kept_decls K igs t.decls) ⊎ In p (kept_attrs K igs t.attrs) → Seen p (tag t ∷ past)
      go (inl a) = inr (inl (decl_seen igs p t.decls h.1 a))
      go (inr a) =
          inl (
            at,
            inl (in_sub p (tag-part K igs t) (inr i), refl),
            inr (attr_seen (heeds K ext at) (scope ext at) p t.attrs h.2 (subst (λ b. attr_marks K (heeds K ext at) b (scope ext at) t.attrs ≡ []) f (right_nil _ _ m)) a),
          )
  tag-seen t past false false h e f m p i = absurd i

  token_seen : (t : Token) (past : List Token) → TokenTrue texts t → marks_of K ext t past ≡ [] → (p : PlacedRow) → In p (kept_of K ext t past)
      → Seen p (t ∷ past)
  unfolding kept_of marks_of
  token_seen (tag t) past h m p i = tag-seen t past _ _ h refl refl m p i
  token_seen (text y) past h m p i = inr (inr (inl (subst (IsKind Text) (sym (in_when p y _ i).0) h)))
  token_seen (end y) past h m p i = inr (inr (inr (subst (IsKind End) (sym (in_when p y _ i).0) h)))

  pub seen : (toks : List Token) → AllTrue texts toks → mismatches K ext toks ≡ [] → (p : PlacedRow) → In p (kept_rows K ext toks)
      → Seen p toks
  unfolding kept_rows mismatches
  seen [] h m p i = absurd i
  seen (t ∷ past) h m p i = go (in_append p (kept_rows K ext past) (kept_of K ext t past) i) (seen past h.1 (left_nil _ _ m) p)
    where
      go : In p (kept_rows K ext past) ⊎ In p (kept_of K ext t past) → (In p (kept_rows K ext past) → Seen p past) → Seen p (t ∷ past)
      go (inl a) f = seen-on p t past (f a)
      go (inr a) f = token_seen t past h.0 (right_nil _ _ m) p a

  named-not : (k : Kind) (x : PlacedRow) → IsKind k x → has_name (Some k) ≡ false → has_name (kind_of x.row.kind) ≡ true → ⊥
  named-not k x e f g = false≢true (sym f ∙ sym (ap has_name e) ∙ g)

  -- what the law says of the kept rows of a record without mismatch
  pub fine_names : (rows : List Row) → mismatches K ext (tokens texts rows) ≡ [] → (x : PlacedRow)
      → In x (kept_rows K ext (tokens texts rows)) → has_name (kind_of x.row.kind) ≡ true
      → (at : List Element) × StandsOnly x at (tokens texts rows) × (in_extension ext at ≡ false → Fine K (text_at texts x.row.a))
  fine_names rows m x i n = go (seen (tokens texts rows) (all_true texts rows) m x i)
    where
      good : (at : List Element) → Good x at → in_extension ext at ≡ false → Fine K (text_at texts x.row.a)
      good at (inl e) f = absurd (false≢true (sym f ∙ e))
      good at (inr e) f = e

      go : Seen x (tokens texts rows)
          → (at : List Element) × StandsOnly x at (tokens texts rows) × (in_extension ext at ≡ false → Fine K (text_at texts x.row.a))
      go (inl s) = (s.0, stands_only x s.0 texts rows s.1, good s.0 s.2)
      go (inr (inl q)) = absurd (named-not Declaration x q refl n)
      go (inr (inr (inl q))) = absurd (named-not Text x q refl n)
      go (inr (inr (inr q))) = absurd (named-not End x q refl n)

pub understood_only : UnderstoodOnly
understood_only texts K ext rows s e x i n =
    let w = whole texts K ext rows s e in
    fine_names K ext texts (reverse rows) w.matched x (subst (In x) w.kept-rows i) n
