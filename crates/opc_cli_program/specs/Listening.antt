-- Where the program listens, and what it prints about it.
use Rattle.std.specs.Prelude.{◌≡◌, ◌++◌, ℕ, List, [], ◌∷◌, Option, codes, decimal}
use Rattle.std.specs.Io.KnownBytes.{Appends}
use Rattle.std.specs.Net.Addr.{ipv4_octets, MatchIp}
use Rattle.std.specs.Net.Socket.{socket_ip, socket_port}
use Rattle.std.specs.declared.net.socket_addr.SocketAddr.{SocketAddr}

-- 127.0.0.1
abbrev pub IsLocalhost : SocketAddr → Type 0
IsLocalhost address = MatchIp (socket_ip address) (λ v4. ipv4_octets v4 ≡ 127 ∷ 0 ∷ 0 ∷ 1 ∷ []) (λ v6. ⊥)

-- the line that states where
abbrev pub listening_line : ℕ → List ℕ
listening_line port = codes "LISTENING 127.0.0.1:" ++ decimal port ++ codes "\n"

-- the line that states at which socket
abbrev pub socket_line : List ℕ → List ℕ
socket_line path = codes "LISTENING unix:" ++ path ++ codes "\n"

module _ {P L : Type 0} (binds : P → SocketAddr → L → Type 0) (is_at : P → L → SocketAddr → Type 0) (ports : P) where
  -- The listener was bound to the requested port of 127.0.0.1, and is at this port.
  pub record IsListening (asked : ℕ) (listener : L) (port : ℕ) : Type 0 where
    pub address : SocketAddr
    pub here : IsLocalhost address
    pub same : socket_port address ≡ asked
    pub bound : binds ports address listener
    pub given : SocketAddr
    pub at : is_at ports listener given
    pub port_is : socket_port given ≡ port

  -- It was, and the output states at which port it is.
  abbrev pub ListensAt : (before after : Option (List ℕ)) → (asked : ℕ) → L → (port : ℕ) → Type 0
  ListensAt before after asked listener port = IsListening asked listener port
      × Appends before after (listening_line port)

module _ {P B S : Type 0} (names : P → List ℕ → B → Type 0) (permits : P → List ℕ → ℕ → Type 0)
    (listens : P → B → S → Type 0) (ports : P) where
  -- A socket has the file at this path, which has these permissions, and listens.
  pub record IsSocketAt (path : List ℕ) (mode : ℕ) (socket : S) : Type 0 where
    pub bound : B
    pub named : names ports path bound
    pub permitted : permits ports path mode
    pub listening : listens ports bound socket

  -- And the output states at which path; when nobody is served any more, what is at the path is removed if it is the
  -- file of this socket.
  abbrev pub ListensBy : (removes : P → List ℕ → S → Type 0) → (before after : Option (List ℕ)) → (path : List ℕ)
      → (mode : ℕ) → S → Type 0
  ListensBy removes before after path mode socket = (IsSocketAt path mode socket × removes ports path socket)
      × Appends before after (socket_line path)
