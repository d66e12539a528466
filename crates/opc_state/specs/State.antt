-- The state of the access machine.
use Rattle.std.specs.Prelude.{◌<◌, ◌^◌, ℕ, Bool, true, false, List, [], ◌∷◌, length, Option}
use Rattle.opc_names.specs.declared.class.Class.{Class}
use Rattle.opc_policy_members.specs.declared.policy.Policy.{Policy}
use Rattle.opc_policy_members.specs.declared.profile.Profile.{Profile}
use Rattle.opc_policy_members.specs.declared.user.User.{User}
use Rattle.opc_policy_members.specs.Profiles.{of_class}
use Rattle.opc_policy.specs.Deciding.{deciding}
use Rattle.opc_board.specs.declared.board.BoardRows.{BoardRows}
use Rattle.opc_state.specs.declared.account.AccountRow.{AccountRow}
use Rattle.opc_state.specs.declared.change.Batch.{Batch}

pub record State : Type 0 where
  pub policy : Policy
  pub board : BoardRows
  -- a row's number is its place, from 1
  pub account : List AccountRow
  pub batches : List Batch

-- nothing is kept, no class is active, and the day is not halted
abbrev pub empty : State
empty = record {
  policy = record {
    users = [];
    groups = [];
    connects = [];
    profiles = [];
    active = record { console = false; opercmds = false };
  };
  board = record {
    units = [];
    devices = [];
    consoles = [];
    replies = [];
    answered = [];
    log = [];
    messages = [];
    halted = false;
  };
  account = [];
  batches = [];
}

-- the profile of a class that decides a resource
abbrev pub deciding_in : Policy → Class → List ℕ → Option Profile
deciding_in p class resource = deciding (of_class class p.profiles) resource

-- whether a user is stored
abbrev pub is_some_user : List User → Bool
is_some_user [] = false
is_some_user (user ∷ users) = true

abbrev pub has_users : Policy → Bool
has_users p = is_some_user p.users

-- No number passes what a table can hold.
pub record Fits (s : State) : Type 0 where
  pub account : length s.account < 2 ^ 63
  pub answered : length s.board.answered < 2 ^ 63
  pub log : length s.board.log < 2 ^ 63
  pub messages : length s.board.messages < 2 ^ 63
