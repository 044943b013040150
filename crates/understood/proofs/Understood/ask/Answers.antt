use Rattle.std.proofs.Common.{◌≡◌, ℕ, zero, suc, ◌+◌, ◌<◌, ◌≤◌, List, [], length, get_or, sym, ap, ◌∙◌, subst, inl, inr, arith, rules}
use Rattle.std.proofs.lemmas.Bool.{cases_lt}
use Rattle.std.proofs.lemmas.List.{get_or_past}
use Rattle.std.specs.Array.{IsFromFnResult, IsFromFnResultFrom}
use Rattle.std.specs.Fn.{Called}
use denote.Param.Members.{Mut}
use Rattle.text.specs.Bytes.{Bytes}
use Rattle.file.specs.Form.{text_at}
use Rattle.file.specs.Texts.{texts}
use Rattle.file.proofs.Sound.{few_texts}
use Rattle.knowledge.specs.Understood.{Knows, is_understood}
use Rattle.understood.specs.declared.Understood.{Understood}
use Rattle.understood.specs.Answers.{asked, Knowing}
use Rattle.understood.proofs.Understood.ask.Goals as goal

-- where each call gives what v says and leaves the function, the elements are what v says
module _ {F B : Type 0} (g : Mut F (ℕ × Unit {0}) B) (v : ℕ → B) (f : F) (ys : List B) (n : ℕ) where
  abbrev Gives : Type 0
  Gives = (k : ℕ) (y : B) (q : F) → k < n → Called g f (k, tt) y q → (y ≡ v k) × (q ≡ f)

  given_from : Gives → (i m : ℕ) → i + m ≡ n → IsFromFnResultFrom g f ys i m → (k : ℕ) (d : B) → i ≤ k → k < n → get_or ys k d ≡ v k
  given_from step i zero e h k d low high = absurd (omega arith)
  given_from step i (suc m) e h k d low high =
      let s = step i h.1 h.0 (omega arith) h.3 in
      elim (cases_lt i k) [
        | inl lt ↦ given_from step (i + 1) m (omega arith) (subst (λ z. IsFromFnResultFrom g z ys (i + 1) m) s.1 h.4) k d (omega arith) high
        | inr le ↦ let e : k ≡ i = omega arith in rw e (h.2.1 d ∙ s.0)
      ]

  given : IsFromFnResult g f ys n → Gives → (k : ℕ) (d : B) → k < n → get_or ys k d ≡ v k
  given h step k d lt = given_from step 0 n (omega arith) h.each k d (omega arith) lt

-- each number that a text may have was answered, and the empty string, which stands for the others
knowing_all : (texts : List Bytes) (knows : Knows) (u : Understood) → length texts ≤ length u.answers
    → ((k : ℕ) → k < length u.answers → asked u k ≡ is_understood knows (text_at texts k))
    → u.empty ≡ is_understood knows [] → Knowing texts knows u
unfolding asked text_at
knowing_all texts knows u few all empty n =
    elim (cases_lt n (length u.answers)) [
      | inl lt ↦ all n lt
      | inr le ↦ rw (get_or_past u.answers n u.empty le) (empty ∙ ap (is_understood knows) (sym (get_or_past texts n [] (omega arith))))
    ]

pub returns : goal.returns
unfolding asked
returns g c =
    let ts = texts c.args.lent in
    let knows = g.K.Knowledge.meaning c.args.knowledge.now in
    let made = c.from_fn-self.ensures.items in
    let all = given _ (λ n. is_understood knows (text_at ts n)) _ _ _ made (λ n y q l a. search rules) in
    knowing_all ts knows _ (rw made.long (few_texts c.args.lent)) (λ k lt. all k _ (rw made.long at lt)) c.understands-empty.ensures
