-- Lists that are read element by element.
use Rattle.std.proofs.Common.{◌≡◌, ℕ, suc, ◌<◌, List, [], ◌∷◌, ◌++◌, length, refl, sym, ap, ◌∙◌, arith, append_assoc}
use Rattle.terms.specs.Reading.{Reading, Got}

-- bytes of so many elements stand at the front
pub record ListRead {A : Type 0} (Are : List A → List ℕ → Type 0) (count : ℕ) (bytes : List ℕ) (all : List A) (rest : List ℕ) : Type 0 where
  pub body : List ℕ
  pub bytes_are : bytes ≡ body ++ rest
  pub count_is : length all ≡ count
  pub are : Are all body

pub none_read : {A E : Type 0} (Are : List A → List ℕ → Type 0) (bytes : List ℕ) (all : List A) (rest : List ℕ)
    → ◌≡◌ {A = Reading (List A) E} (Got [] bytes) (Got all rest) → Are [] [] → ListRead Are 0 bytes all rest
none_read Are bytes all rest e none =
    let is : all ≡ [] = cc in
    let rest_is : bytes ≡ rest = cc in
    rw is (record { body = []; bytes_are = rest_is; count_is = refl; are = none })

-- one element, and those after it
pub one_more_read : {A E : Type 0} (Are After : List A → List ℕ → Type 0) (a : A) (others all : List A) (first bytes between after rest : List ℕ) (count : ℕ)
    → bytes ≡ first ++ between → ListRead After count between others after → ◌≡◌ {A = Reading (List A) E} (Got (a ∷ others) after) (Got all rest)
    → ((body : List ℕ) → After others body → Are (a ∷ others) (first ++ body)) → ListRead Are (suc count) bytes all rest
one_more_read Are After a others all first bytes between after rest count front read e are =
    let is : all ≡ a ∷ others = cc in
    let rest_is : after ≡ rest = cc in
    rw is (record {
      body = first ++ read.body;
      bytes_are = front ∙ ap (λ z. first ++ z) (read.bytes_are ∙ ap (λ z. read.body ++ z) rest_is) ∙ sym (append_assoc first read.body rest);
      count_is = ap suc read.count_is;
      are = are read.body read.are;
    })

-- after fewer elements than so many stand bytes of which this holds
pub record StopsIn {A : Type 0} (Are : List A → List ℕ → Type 0) (Stops : List ℕ → Type 0) (count : ℕ) (bytes : List ℕ) : Type 0 where
  pub earlier : List A
  pub body : List ℕ
  pub last : List ℕ
  pub bytes_are : bytes ≡ body ++ last
  pub body_is : Are earlier body
  pub one_of_them : length earlier < count
  pub stops : Stops last

pub stops_here : {A : Type 0} (Are : List A → List ℕ → Type 0) (Stops : List ℕ → Type 0) (count : ℕ) (bytes : List ℕ) → Are [] [] → Stops bytes
    → StopsIn Are Stops (suc count) bytes
stops_here Are Stops count bytes none stops =
    record { earlier = []; body = []; last = bytes; bytes_are = refl; body_is = none; one_of_them = omega arith; stops = stops }

pub stops_after : {A : Type 0} (Are : List A → List ℕ → Type 0) (Stops : List ℕ → Type 0) (a : A) (count : ℕ) (bytes first rest : List ℕ) → bytes ≡ first ++ rest
    → StopsIn Are Stops count rest → ((others : List A) (body : List ℕ) → Are others body → Are (a ∷ others) (first ++ body)) → StopsIn Are Stops (suc count) bytes
stops_after Are Stops a count bytes first rest front others are =
    let less = others.one_of_them in
    record {
      earlier = a ∷ others.earlier;
      body = first ++ others.body;
      last = others.last;
      bytes_are = front ∙ ap (λ z. first ++ z) others.bytes_are ∙ sym (append_assoc first others.body others.last);
      body_is = are others.earlier others.body others.body_is;
      one_of_them = omega arith;
      stops = others.stops;
    }
