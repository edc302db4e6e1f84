-- What is written into a page, and what can be read from it.
use Rattle.std.specs.Prelude.{◌≡◌, ℕ, zero, suc, List, [], ◌∷◌, ◌++◌, length, take, drop, Option, None, Some, Result, Ok, Err, IfOk, MatchResult, OnErr}
use Rattle.std.specs.Option.{option_map}
use Rattle.std.specs.Result.{result_ok}
use Rattle.std.specs.Coded.{Coded-set, coded_list, coded_option, coded_ℕ, Unit-prop}
use Rattle.std.specs.Io.KnownBytes.{Keeps, Appends, WriteAppends, append_known}
use Rattle.std.proofs.Common.{arith, refl, sym, ap, subst, ◌∙◌, append_assoc, append-nil, take-append-drop}
use Rattle.std.proofs.KnownBytes.{Keeps-refl, Keeps-trans, append_known-kept}
use Rattle.std.proofs.Math.Logic.{∥∥₁_elim, ∥∥₁_map}
use Rattle.std.proofs.Math.Seq.{drop-append_seam, take-append_seam}
use Rattle.base64.specs.Engines.{standard}
use Rattle.base64.specs.GeneralPurpose.{IsBytes, SameEngine, decode_of, encode_of}
use Rattle.base64.specs.Rfc4648.{encode}
use Rattle.base64.specs.declared.engine.general_purpose.GeneralPurpose.{GeneralPurpose}
use Rattle.base64.proofs.EngineFacts.{decode_of-encode_of, front_bytes}
use Rattle.recording_page.specs.Page.{Has, IsPage, page_after, page_in, page_of}

Keeps-prop : (a b : Option (List ℕ)) → IsProp (Keeps a b)
Keeps-prop None b = Unit-prop
Keeps-prop (Some xs) None = λ p q. absurd p
Keeps-prop (Some xs) (Some ys) = Coded-set (coded_list coded_ℕ) ys xs

Appends-prop : (a b : Option (List ℕ)) (bs : List ℕ) → IsProp (Appends a b bs)
Appends-prop None b bs = Unit-prop
Appends-prop (Some xs) None bs = λ p q. absurd p
Appends-prop (Some xs) (Some ys) bs = Coded-set (coded_list coded_ℕ) ys (xs ++ bs)

-- a writer holds what was appended to what it held
appended_is : (old new : Option (List ℕ)) (bytes : List ℕ) → Appends old new bytes → Keeps (append_known old bytes) new
appended_is None new bytes h = tt
appended_is (Some xs) None bytes h = absurd h
appended_is (Some xs) (Some ys) bytes h = h

-- ---- what is read is what was written

text_read : (before bytes : List ℕ) (text : Option (List ℕ)) → IsBytes bytes → Keeps (Some (before ++ encode_of standard bytes)) text
    → page_in before text ≡ Some (page_of before bytes)
text_read before bytes None all kept = absurd kept
text_read before bytes (Some text) all kept =
    ap (λ z. option_map (page_of before) (result_ok (decode_of standard (drop (length before) z)))) kept
    ∙ ap (λ z. option_map (page_of before) (result_ok (decode_of standard z))) (drop-append_seam before (encode_of standard bytes))
    ∙ ap (λ z. option_map (page_of before) (result_ok z)) (decode_of-encode_of standard bytes refl all)

page_has : (before : List ℕ) (finished : List ℕ → Option (List ℕ)) (bytes : List ℕ) → Has (Some before) finished bytes → page_in before (finished []) ≡ Some (page_of before bytes)
page_has before finished bytes h =
    text_read before bytes (finished []) h.all (subst (λ z. Keeps (Some (before ++ encode_of standard z)) (finished [])) (append-nil bytes) (h.ends []))

-- ---- a page begins

-- engines that are the same encode alike
pub encode_same : (a b : GeneralPurpose) (bytes : List ℕ) → SameEngine a b → encode_of a bytes ≡ encode_of b bytes
encode_same a b bytes h =
    ap (λ t. encode t a.padding.value a.config.encode_padding bytes) h.0
    ∙ ap (λ z. encode b.encode_table z a.config.encode_padding bytes) h.2
    ∙ ap (λ z. encode b.encode_table b.padding.value z.encode_padding bytes) h.3

pub begun : (before : Option (List ℕ)) (finished : List ℕ → Option (List ℕ)) → ((rest : List ℕ) → finished rest ≡ append_known before (encode_of standard rest)) → Has before finished []
begun before finished h = record {
  all = λ i. omega arith;
  ends = λ rest. subst (Keeps (append_known before (encode_of standard rest))) (sym (h rest)) (Keeps-refl (append_known before (encode_of standard rest)));
}

pub begins : (held before : Option (List ℕ)) (front : List ℕ) (finished : List ℕ → Option (List ℕ)) → Appends held before front → Has before finished []
    → Keeps (option_map (λ xs. page_of (xs ++ front) []) held) (page_after before (finished []))
begins None before front finished appends h = tt
begins (Some held) None front finished appends h = absurd appends
begins (Some held) (Some before) front finished appends h =
    subst (Keeps (Some (page_of (held ++ front) []))) (sym (page_has before finished [] h)) (ap (λ z. page_of z []) appends)

-- ---- more is written

bytes_append : (xs ys : List ℕ) → IsBytes xs → IsBytes ys → IsBytes (xs ++ ys)
bytes_append [] ys a b i = b i
bytes_append (x ∷ xs) ys a b zero = a 0
bytes_append (x ∷ xs) ys a b (suc i) = bytes_append xs ys (λ k. a (suc k)) b i

bytes_taken : (n : ℕ) (xs : List ℕ) → IsBytes xs → IsBytes (take n xs)
bytes_taken n xs all = front_bytes (take n xs) (drop n xs) (subst IsBytes (sym (take-append-drop n xs)) all)

page_more : (before bytes more : List ℕ) → page_of before (bytes ++ more) ≡ page_of before bytes ++ more
page_more before bytes more = ap (λ z. length before ∷ z) (sym (append_assoc before bytes more))

module _ (old new : List ℕ → Option (List ℕ)) where
  abbrev Takes : List ℕ → Type 0
  Takes more = (rest : List ℕ) → Keeps (old (more ++ rest)) (new rest)

  has_more : (before : Option (List ℕ)) (bytes more : List ℕ) → IsBytes more → Has before old bytes → Takes more → Has before new (bytes ++ more)
  has_more before bytes more all h took = record {
    all = bytes_append bytes more h.all all;
    ends = λ rest. Keeps-trans _ _ _ (subst (λ z. Keeps (append_known before (encode_of standard z)) (old (more ++ rest))) (sym (append_assoc bytes more rest)) (h.ends (more ++ rest))) (took rest);
  }

  pub page_takes : (before : Option (List ℕ)) (more : List ℕ) → IsBytes more → Takes more → ∥ IsPage before old ∥₁ → ∥ IsPage before new ∥₁
  page_takes before more all took held = ∥∥₁_map held (λ h. (h.0 ++ more, has_more before h.0 more all h.1 took))

  had : (before : Option (List ℕ)) (more : List ℕ) → IsBytes more → Takes more → IsPage before old → Appends (page_after before (old [])) (page_after before (new [])) more
  had None more all took h = tt
  had (Some before) more all took h =
      subst (λ z. Appends z (page_in before (new [])) more) (sym (page_has before old h.0 h.1))
      (subst (λ z. Appends (Some (page_of before h.0)) z more) (sym (page_has before new (h.0 ++ more) (has_more (Some before) h.0 more all h.1 took))) (page_more before h.0 more))

  page_appends : (before : Option (List ℕ)) (more : List ℕ) → IsBytes more → Takes more → ∥ IsPage before old ∥₁ → Appends (page_after before (old [])) (page_after before (new [])) more
  page_appends before more all took held = ∥∥₁_elim held (Appends-prop _ _ more) (had before more all took)

  appends_none : (a b : Option (List ℕ)) → Appends a b [] → Keeps a b
  appends_none None b h = tt
  appends_none (Some xs) None h = absurd h
  appends_none (Some xs) (Some ys) h = h ∙ append-nil xs

  pub page_keeps : (before : Option (List ℕ)) → Takes [] → ∥ IsPage before old ∥₁ → Keeps (page_after before (old [])) (page_after before (new []))
  page_keeps before took held = appends_none _ _ (page_appends before [] (λ i. omega arith) took held)

  pub page_written : {E : Type 0} (before : Option (List ℕ)) (r : Result ℕ E) (buf : List ℕ) → IsBytes buf → IfOk r (λ n. Takes (take n buf)) → OnErr r (Takes [])
      → ∥ IsPage before old ∥₁ → ∥ IsPage before new ∥₁
  page_written before (Ok n) buf all ok err held = page_takes before (take n buf) (bytes_taken n buf all) ok held
  page_written before (Err e) buf all ok err held = page_takes before [] (λ i. omega arith) err held

  pub write_appends : {E : Type 0} (before : Option (List ℕ)) (r : Result ℕ E) (buf : List ℕ) → IsBytes buf → IfOk r (λ n. Takes (take n buf)) → OnErr r (Takes [])
      → ∥ IsPage before old ∥₁ → WriteAppends (page_after before (old [])) (page_after before (new [])) r buf
  write_appends before (Ok n) buf all ok err held = page_appends before (take n buf) (bytes_taken n buf all) ok held
  write_appends before (Err e) buf all ok err held = page_keeps before err held

-- ---- a page ends

-- which page it is
same_page : (a b xs ys : List ℕ) → page_of a xs ≡ page_of b ys → (a ≡ b) × (xs ≡ ys)
same_page a b xs ys e =
    let n : length a ≡ length b = cc e in
    let both : a ++ xs ≡ b ++ ys = cc e in (
      sym (take-append_seam a xs) ∙ ap (take (length a)) both ∙ ap (λ k. take k (b ++ ys)) n ∙ take-append_seam b ys,
      sym (drop-append_seam a xs) ∙ ap (drop (length a)) both ∙ ap (λ k. drop k (b ++ ys)) n ∙ drop-append_seam b ys,
    )

keeps_is : (bytes : List ℕ) (out : Option (List ℕ)) → Keeps (Some bytes) out → out ≡ Some bytes
keeps_is bytes None h = absurd h
keeps_is bytes (Some xs) h = ap Some h

module _ (finished : List ℕ → Option (List ℕ)) (done out : Option (List ℕ)) (end : List ℕ) (kept : Keeps (finished []) done) (appends : Appends done out end) where
  ended : (held : Option (List ℕ)) (before bytes : List ℕ) → IsPage held finished → page_after held (finished []) ≡ Some (page_of before bytes)
      → out ≡ Some (before ++ (encode_of standard bytes ++ end))
  ended None before bytes h is = absurd (cc is)
  ended (Some held) before bytes h is =
      let page : page_of held h.0 ≡ page_of before bytes = cc (page_has held finished h.0 h.1, is) in
      let same = same_page held before h.0 bytes page in
      let text : Keeps (Some (held ++ encode_of standard h.0)) (finished []) = subst (λ z. Keeps (Some (held ++ encode_of standard z)) (finished [])) (append-nil h.0) (h.1.ends []) in
      let whole : Keeps (Some ((held ++ encode_of standard h.0) ++ end)) out =
      Keeps-trans (Some ((held ++ encode_of standard h.0) ++ end)) (append_known (finished []) end) out (append_known-kept (Some (held ++ encode_of standard h.0)) (finished []) end text)
      (Keeps-trans _ _ _ (append_known-kept (finished []) done end kept) (appended_is done out end appends)) in
      keeps_is ((held ++ encode_of standard h.0) ++ end) out whole
      ∙ ap Some (append_assoc held (encode_of standard h.0) end)
      ∙ ap (λ z. Some (z ++ (encode_of standard h.0 ++ end))) same.0
      ∙ ap (λ z. Some (before ++ (encode_of standard z ++ end))) same.1

  pub ends : (held : Option (List ℕ)) (before bytes : List ℕ) → ∥ IsPage held finished ∥₁ → page_after held (finished []) ≡ Some (page_of before bytes)
      → out ≡ Some (before ++ (encode_of standard bytes ++ end))
  ends held before bytes has is = ∥∥₁_elim has (Coded-set (coded_option (coded_list coded_ℕ)) _ _) (λ h. ended held before bytes h is)

-- ---- a page that was begun, written and ended

pub page_is : (held page written out : Option (List ℕ)) (front file end : List ℕ) → Keeps (option_map (λ xs. page_of (xs ++ front) []) held) page → Appends page written file
    → ((before bytes : List ℕ) → written ≡ Some (page_of before bytes) → out ≡ Some (before ++ (encode_of standard bytes ++ end)))
    → Appends held out (front ++ (encode_of standard file ++ end))
page_is None page written out front file end first appends last = tt
page_is (Some held) None written out front file end first appends last = absurd first
page_is (Some held) (Some page) None out front file end first appends last = absurd appends
page_is (Some held) (Some page) (Some written) out front file end first appends last =
    let is : written ≡ page_of (held ++ front) file = appends ∙ ap (λ z. z ++ file) first ∙ sym (page_more (held ++ front) [] file) in
    subst (λ z. Appends (Some held) z (front ++ (encode_of standard file ++ end))) (sym (last (held ++ front) file (ap Some is))) (append_assoc held front (encode_of standard file ++ end))

-- what is true of a result's value is true of it after `map_err`
pub mapped : {A E : Type 0} (D : Type 0) (r : Result A E) (x : A) (P : A → Type 0) → MatchResult r (λ y. ◌≡◌ {A = Result A D} (Ok x) (Ok y)) (λ _. ⊥) → IfOk r P → P x
mapped D (Ok y) x P is h =
    let same : x ≡ y = cc is in
    subst P (sym same) h
mapped D (Err e) x P is h = absurd is
