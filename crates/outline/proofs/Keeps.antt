-- What an outline keeps, when it is new, when a row is put, and when its draft is sealed or dropped.
use Rattle.std.proofs.Common.{◌≡◌, ℕ, suc, ◌+◌, ◌-◌, ◌*◌, ◌<◌, ◌≤◌, Bool, true, false, cond, ◌&&◌, T, eqb, List, [], ◌∷◌, ◌++◌, length, take, set, Some, None, Ok, Option, sym, refl, ap, ◌∙◌, subst, add-one, arith, length-set, eqb-true}
use Rattle.std.specs.List.{slice_get}
use Rattle.std.specs.List.Sorted.{IsNonDecreasingBy}
use Rattle.std.proofs.lemmas.List.{length_push, take-append-le, take_all, take-set-le, length-take-le}
use Rattle.std.proofs.lemmas.List.Sorted.{IsNonDecreasingBy-short}
use Rattle.record.specs.declared.row.PlacedRow.{PlacedRow}
use Rattle.record.specs.Rows.{kind_of}
use Rattle.roll.specs.Rolls.{items}
use Rattle.sheet.specs.Rows.{is_start, is_end, formed, well_formed, open_behind, open_in, pairs, cost_of, spent}
use Rattle.sheet.specs.declared.tail.Tail.{Tail}
use Rattle.sheet.specs.Tails.{tail_of, judged, tail_behind, Drafted}
use Rattle.sheet.proofs.Drafts.{accepted-closes, accepted-formed, drafted_starts, drafted-put, drafted_seal, drafted-drop}
use Rattle.sheet.proofs.Pairs.{spent_append}
use Rattle.outline.specs.declared.entry.Entry.{Entry}
use Rattle.outline.specs.declared.entry.Span.TheVariants.{Leaf, Open}
use Rattle.outline.specs.declared.Outline.{Outline}
use Rattle.outline.specs.Entries.{end_row, outline_cost, end_of, rows_of, entry_of, top_behind, closed_by, innermost}
use Rattle.outline.specs.Found.{Findable, LeadsUp}
use Rattle.outline.specs.Sound.{span_before, all_before, chained, Kept, Sound}
use Rattle.outline.proofs.Chains.{chain-top, chain-none, chain_entry, top-draft, top_open, top-before, chain_close, chain_push, chain_open}
use Rattle.outline.proofs.Lookups.{find_push, leads_push, find_close, leads_close}
use Rattle.outline.proofs.Rises.{rises_push, rises_set}
use Rattle.outline.proofs.Spans.{rows_push, rows_close, before_push, before_close}

-- what an outline keeps of its entries
pub record All (es : List Entry) (sealed count total : ℕ) (top : Option ℕ) (tail : Tail) : Type 0 where
  pub within : sealed ≤ length es
  pub sound : Sound sealed es total tail.starts top
  pub sound_before : Sound sealed (take sealed es) count 0 None
  pub front : rows_of (take sealed es) ≡ take count (rows_of es)
  pub drafted : Drafted count tail (rows_of es)

pub all_of : (s : Outline) → All (items s.roll) s.sealed s.count s.total s.top s.tail
all_of s =
    record { within = s.within; sound = s.sound; sound_before = s.sound_before; front = s.front; drafted = s.drafted }

three : (a b c : ℕ) → (eqb a 0 && (eqb b 0 && eqb c 0)) ≡ true → (a ≡ 0) × (b ≡ 0) × (c ≡ 0)
three a b c h = (grind arith, grind arith, grind arith)

-- an entry more
kept_push : (s : ℕ) (es : List Entry) (e : Entry) (t n m : ℕ) (top up : Option ℕ) → Kept s es t n top → ((k i : ℕ) → end_of k i e.span ≡ []) → ((k i : ℕ) → span_before k i e.span ≡ true) → cost_of outline_cost e.row ≡ 1 → m ≤ n + 1 → T (chained s (es ++ e ∷ []) m up) → Kept s (es ++ e ∷ []) (t + 1) m up
kept_push s es e t n m top up k none free one few chain =
    let rows : rows_of (es ++ e ∷ []) ≡ rows_of es ++ e.row ∷ [] = rows_push es e k.3 none in
    let long = length_push es e in
    let more = length_push (rows_of es) e.row in
    let cost : spent outline_cost (rows_of es ++ e.row ∷ []) ≡ spent outline_cost (rows_of es) + (cost_of outline_cost e.row + 0) = spent_append outline_cost (rows_of es) (e.row ∷ []) in
    (ap length rows ∙ omega (arith, k.0), ap (spent outline_cost) rows ∙ omega (arith, k.1), omega (arith, k.2), before_push es e k.3 free, chain)

-- the rest of what is kept, once the list has grown by a row and its sealed part has not
all_grown : (es fs : List Entry) (sealed count total u : ℕ) (top up : Option ℕ) (t : Tail) (x : PlacedRow) (room : Bool) → All es sealed count total top t → Ok tt ≡ judged t x room → rows_of fs ≡ rows_of es ++ x ∷ [] → take sealed fs ≡ take sealed es → sealed ≤ length fs → Kept sealed fs u (open_behind t.starts x) up → IsNonDecreasingBy (λ e. e.number) fs → Findable fs u (rows_of es ++ x ∷ []) → LeadsUp fs u up → All fs sealed count u up (tail_behind t x)
unfolding tail_behind
all_grown es fs sealed count total u top up t x room a fine rows front within kept up_to find lead =
    let same : take count (rows_of fs) ≡ take count (rows_of es) = ap (take count) rows ∙ take-append-le count (rows_of es) (x ∷ []) a.drafted.0 in
    record {
      within = within;
      sound = record { kept = kept; rises = up_to; finds = subst (λ zs. Findable fs u zs) (sym rows) find; leads = lead };
      sound_before = subst (λ zs. Sound sealed zs count 0 None) (sym front) a.sound_before;
      front = ap rows_of front ∙ a.front ∙ sym same;
      drafted = drafted-put count t (rows_of es) a.drafted (rows_of fs) x room rows fine;
    }

module _ (es : List Entry) (sealed count total : ℕ) (top : Option ℕ) (t : Tail) (a : All es sealed count total top t) where
  kept : Kept sealed es total t.starts top
  kept = a.sound.kept

  pub few-rows : (total + t.starts ≤ 2 * length es) × (t.starts ≤ length es)
  few-rows =
      let k = kept in
      (k.2, omega (arith, k.2, drafted_starts count t (rows_of es) a.drafted, k.0))

  -- a row that is no end
  module _ (x : PlacedRow) (room : Bool) (fine : Ok tt ≡ judged t x room) (stays : is_end x ≡ false) where
    abbrev made : Bool → Entry
    made b = record { row = x; span = cond b Open Leaf; number = total; around = top }

    end-less : (b : Bool) (k i : ℕ) → end_of k i (made b).span ≡ []
    end-less true k i = refl
    end-less false k i = refl

    free : (b : Bool) (k i : ℕ) → span_before k i (made b).span ≡ true
    free true k i = refl
    free false k i = refl

    kept-made : (b : Bool) → is_start x ≡ b → Kept sealed (es ++ made b ∷ []) (total + 1) (cond b (t.starts + 1) (cond (is_end x) (t.starts - 1) t.starts)) (cond b (Some (length es)) top)
    kept-made true s =
        kept_push sealed es (made true) total t.starts (t.starts + 1) top (Some (length es)) kept (end-less true) (free true) (grind arith) (omega arith)
        (subst (λ n. T (chained sealed (es ++ made true ∷ []) n (Some (length es)))) (sym (add-one t.starts)) (chain_open sealed es (made true) t.starts a.within kept.3 refl kept.4))
    kept-made false s =
        let none : cond (is_end x) (t.starts - 1) t.starts ≡ t.starts = ap (λ b. cond b (t.starts - 1) t.starts) stays in
        subst (λ n. Kept sealed (es ++ made false ∷ []) (total + 1) n top) (sym none)
        (kept_push sealed es (made false) total t.starts t.starts top top kept (end-less false) (free false) (grind arith) (omega arith) (chain_push sealed es (made false) t.starts top kept.4))

    up-made : (b : Bool) → cond b (Some (length es)) top ≡ innermost (length es) (made b).span top
    up-made true = refl
    up-made false = refl

    pub entry_rows : rows_of (es ++ entry_of x total top ∷ []) ≡ rows_of es ++ x ∷ []
    entry_rows = rows_push es (entry_of x total top) kept.3 (end-less (is_start x))

    pub entry_all : (fs : List Entry) (up : Option ℕ) (u : Tail) → fs ≡ es ++ entry_of x total top ∷ [] → up ≡ top_behind x (length es) top → u ≡ tail_behind t x → All fs sealed count (total + 1) up u
    entry_all fs up u e q r =
        subst (λ v. All fs sealed count (total + 1) up v) (sym r)
        (subst (λ zs. All zs sealed count (total + 1) up (tail_behind t x)) (sym e)
        (subst (λ o. All (es ++ entry_of x total top ∷ []) sealed count (total + 1) o (tail_behind t x)) (sym q)
        (all_grown es (es ++ entry_of x total top ∷ []) sealed count total (total + 1) top (top_behind x (length es) top) t x room a fine entry_rows
        (take-append-le sealed es (entry_of x total top ∷ []) a.within)
        (omega (arith, length_push es (entry_of x total top), a.within))
        (kept-made (is_start x) refl)
        (rises_push es (entry_of x total top) total top refl a.sound.leads a.sound.rises)
        (find_push es (entry_of x total top) total (rows_of es) refl kept.0 a.sound.finds)
        (leads_push es (entry_of x total top) total (rows_of es) refl kept.0 top (top_behind x (length es) top) (up-made (is_start x)) a.sound.leads))))

  -- an end
  module _ (x : PlacedRow) (room : Bool) (fine : Ok tt ≡ judged t x room) (ends : is_end x ≡ true) where
    is-end : x ≡ end_row x.place
    unfolding well_formed
    is-end =
        let k : x.row.kind ≡ 5 = eqb-true x.row.kind 5 ends in
        let f : (eqb x.row.a 0 && (eqb x.row.b 0 && eqb x.row.c 0)) ≡ true = subst (λ n. formed (kind_of n) x.row ≡ true) k (accepted-formed t x room fine) in
        let z = three x.row.a x.row.b x.row.c f in
        ap (λ n. record { place = x.place; row = record { kind = n; a = x.row.a; b = x.row.b; c = x.row.c } }) k
        ∙ ap (λ n. record { place = x.place; row = record { kind = 5; a = n; b = x.row.b; c = x.row.c } }) z.0
        ∙ ap (λ n. record { place = x.place; row = record { kind = 5; a = 0; b = n; c = x.row.c } }) z.1
        ∙ ap (λ n. record { place = x.place; row = record { kind = 5; a = 0; b = 0; c = n } }) z.2

    pub opened : 0 < t.starts
    opened = let c = accepted-closes t x room fine in grind arith

    less : t.starts ≡ suc (t.starts - 1)
    less = let h = opened in omega arith

    chain : T (chained sealed es (suc (t.starts - 1)) top)
    chain = subst (λ n. T (chained sealed es n top)) less kept.4

    pub top-some : (j : ℕ) × (top ≡ Some j)
    top-some = chain-top sealed es (t.starts - 1) top chain

    module _ (j : ℕ) (is : top ≡ Some j) where
      chain-at : T (chained sealed es (suc (t.starts - 1)) (Some j))
      chain-at = subst (λ o. T (chained sealed es (suc (t.starts - 1)) o)) is chain

      pub top_entry : (e : Entry) × (slice_get es j ≡ Some e)
      top_entry = chain_entry sealed es (t.starts - 1) j chain-at

      module _ (e : Entry) (at : slice_get es j ≡ Some e) (b : ℕ) (inside : b ≡ length es - 1 - j) where
        abbrev shut : List Entry
        shut = set es j (closed_by e x.place b)

        was_open : e.span ≡ Open
        was_open = top_open sealed es (t.starts - 1) j e at chain-at

        leads-up : LeadsUp es total (Some j)
        leads-up = subst (λ o. LeadsUp es total o) is a.sound.leads

        pub end-rows : rows_of shut ≡ rows_of es ++ x ∷ []
        end-rows =
            rows_close es j e x.place b at was_open inside (top-before sealed es (t.starts - 1) j e at chain-at)
            ∙ ap (λ y. rows_of es ++ y ∷ []) (sym is-end)

        kept-shut : Kept sealed shut (total + 1) (open_behind t.starts x) e.around
        kept-shut =
            let rows = end-rows in
            let o = opened in
            let fewer : open_behind t.starts x ≡ t.starts - 1 = grind arith in
            let long : length shut ≡ length es = length-set es j (closed_by e x.place b) in
            let more = length_push (rows_of es) x in
            let free : cost_of outline_cost x ≡ 0 = grind arith in
            let cost : spent outline_cost (rows_of es ++ x ∷ []) ≡ spent outline_cost (rows_of es) + (cost_of outline_cost x + 0) = spent_append outline_cost (rows_of es) (x ∷ []) in
            (ap length rows ∙ omega (arith, kept.0), ap (spent outline_cost) rows ∙ omega (arith, kept.1), omega (arith, kept.2), subst (λ n. T (all_before 0 n shut)) (sym long) (before_close es j e x.place b at was_open inside kept.3), subst (λ n. T (chained sealed shut n e.around)) (sym fewer) (chain_close sealed es (t.starts - 1) j e at chain-at (closed_by e x.place b)))

        pub end_all : (fs : List Entry) (u : Tail) → fs ≡ shut → u ≡ tail_behind t x → All fs sealed count (total + 1) e.around u
        end_all fs u q r =
            subst (λ v. All fs sealed count (total + 1) e.around v) (sym r)
            (subst (λ zs. All zs sealed count (total + 1) e.around (tail_behind t x)) (sym q)
            (all_grown es shut sealed count total (total + 1) top e.around t x room a fine end-rows
            (take-set-le sealed es j (closed_by e x.place b) (top-draft sealed es (t.starts - 1) j e at chain-at))
            (omega (arith, length-set es j (closed_by e x.place b), a.within))
            kept-shut
            (rises_set es j e (closed_by e x.place b) at refl a.sound.rises)
            (subst (λ y. Findable shut (total + 1) (rows_of es ++ y ∷ [])) (sym is-end) (find_close es j e x.place b total (rows_of es) at was_open kept.0 leads-up a.sound.finds))
            (leads_close es j e x.place b total (rows_of es) at was_open kept.0 leads-up)))

  -- the draft sealed
  pub seal_all : (m : ℕ) (u : Tail) → m ≡ length es → t.starts ≡ 0 → u ≡ tail_of [] → All es m total total top u
  unfolding tail_of open_in
  seal_all m u e shut r =
      let all : take m es ≡ es = take_all m es (omega arith) in
      let none : top ≡ None = chain-none sealed es top (subst (λ n. T (chained sealed es n top)) shut kept.4) in
      let whole : take total (rows_of es) ≡ rows_of es = take_all total (rows_of es) (omega (arith, kept.0)) in
      let s : Sound m es total 0 None = record { kept = (kept.0, kept.1, omega (arith, kept.2), kept.3, tt); rises = a.sound.rises; finds = a.sound.finds; leads = subst (λ o. LeadsUp es total o) none a.sound.leads } in
      subst (λ v. All es m total total top v) (sym r)
      (record {
        within = omega arith;
        sound = subst (λ o. Sound m es total 0 o) (sym none) s;
        sound_before = subst (λ zs. Sound m zs total 0 None) (sym all) s;
        front = ap rows_of all ∙ sym whole;
        drafted = drafted_seal count t (rows_of es) a.drafted total (sym kept.0) shut;
      })

  -- the draft dropped
  pub drop_all : (fs : List Entry) (u : Tail) → fs ≡ take sealed es → u ≡ tail_of [] → All fs sealed count count None u
  unfolding tail_of open_in
  drop_all fs u e r =
      let long : length (take sealed es) ≡ sealed = length-take-le sealed es a.within in
      let same : take sealed (take sealed es) ≡ take sealed es = take_all sealed (take sealed es) (omega arith) in
      let whole : take count (rows_of (take sealed es)) ≡ rows_of (take sealed es) = take_all count (rows_of (take sealed es)) (omega (arith, a.sound_before.kept.0)) in
      subst (λ v. All fs sealed count count None v) (sym r)
      (subst (λ zs. All zs sealed count count None (tail_of [])) (sym e)
      (record {
        within = omega arith;
        sound = a.sound_before;
        sound_before = subst (λ zs. Sound sealed zs count 0 None) (sym same) a.sound_before;
        front = ap rows_of same ∙ sym whole;
        drafted = drafted-drop count t (rows_of es) a.drafted (rows_of (take sealed es)) a.front;
      }))

pub new_all : (es : List Entry) (t : Tail) → es ≡ [] → t ≡ tail_of [] → All es 0 0 0 None t
unfolding rows_of tail_of open_in pairs
new_all es t e q =
    subst (λ zs. All zs 0 0 0 None t) (sym e) (subst (λ u. All [] 0 0 0 None u) (sym q)
    (record { within = omega arith; sound = none; sound_before = none; front = refl; drafted = (omega arith, refl, tt, tt) }))
  where
    none : Sound 0 [] 0 0 None
    none =
        record {
          kept = (refl, refl, omega arith, tt, tt);
          rises = IsNonDecreasingBy-short (λ e. e.number) [] (omega arith);
          finds = λ i n h. absurd (omega (arith, h.0));
          leads = (refl, λ i h. absurd (omega arith));
        }
